-- Why lists of edges make no map.
use Rattle.std.specs.Prelude.{ℕ, ◌<◌, List}
use Rattle.st_ids.specs.Graph.{Graph}
use Rattle.st_map.specs.Orders.{IsOrderAt, order_at}
use Rattle.st_map.specs.declared.orders.MapFault.{MapFault}
use Rattle.st_map.specs.declared.orders.MapFault.TheVariants.{BadOrder, NoMemory}

-- v is the first vertex whose list is no permutation of the edges at it; want of memory says nothing
abbrev pub IsMapFault : Graph → List (List ℕ) → MapFault → Type 0
IsMapFault g orders (BadOrder v) = (v.0 < g.vertices) × (IsOrderAt g.ends v.0 (order_at orders v.0) → ⊥)
    × ((u : ℕ) → u < v.0 → IsOrderAt g.ends u (order_at orders u))
IsMapFault g orders NoMemory = Unit {0}
