-- Weights that the polyline picture is made from.
--   AreLong g w          each edge weighs 1 or more, and an edge that has a parallel 2 or more
--   IsLongOnParallels answer g   whatever a closure answers on an edge that has a parallel is 2 or more
-- Letters: g sides, w weights of the edges, e and d edges.
use Rattle.std.specs.Prelude.{ℕ, ◌≡◌, ◌≢◌, ◌<◌, ◌≤◌}
use Rattle.st_ids.specs.declared.ids.EdgeId.{EdgeId}
use Rattle.st_map.specs.Embedded.{Embedded, edges}
use Rattle.st_number.specs.Parallel.{HasParallel}
use Rattle.st_sides.specs.Sides.{SidesValue, edge_count, edge_tail, edge_head}

-- each edge weighs 1 or more, and 2 or more where another edge has the same ends
pub record AreLong (g : SidesValue) (w : ℕ → ℕ) : Type 0 where
  pub from_one : (e : ℕ) → e < edge_count g → 1 ≤ w e
  pub from_two : (e d : ℕ) → e < edge_count g → d < edge_count g → e ≢ d → edge_tail g e ≡ edge_tail g d → edge_head g e ≡ edge_head g d → 2 ≤ w e

-- whatever the closure answers on an edge of the graph that has a parallel is 2 or more
abbrev pub IsLongOnParallels : (EdgeId → ℕ → Type 0) → Embedded → Type 0
IsLongOnParallels answer g = (e : EdgeId) (n : ℕ) → e.0 < edges g → HasParallel g e.0 → answer e n → 2 ≤ n
