-- How large heights and columns can be.
--   BoundsLaw g       a height is at most the greatest weight times one less than the vertices, and a column at most the
--                     number of edges
--   ToSidesLaw        the greatest weights of walks in an embedded graph are the heights of its sides
use Rattle.std.specs.Prelude.{ℕ, ◌-◌, ◌*◌, ◌<◌, ◌≤◌}
use Rattle.st_ids.specs.Graph.{arcs_of}
use Rattle.st_map.specs.Embedded.{Embedded, bare}
use Rattle.st_sides.specs.Sides.{SidesValue, edge_count}
use Rattle.st_sides.specs.SidesOf.{IsSidesOf}
use Rattle.st_number.specs.Greatest.{IsGreatest, IsHeight, IsColumn}

-- A height is at most the greatest weight of an edge times one less than the vertices, and a column at most the number
-- of edges.
pub record BoundsLaw (g : SidesValue) : Type 0 where
  pub heights : (w : ℕ → ℕ) (most : ℕ) → ((e : ℕ) → e < edge_count g → w e ≤ most) → (v n : ℕ) → IsHeight g w v n → n ≤ (g.vertices - 1) * most
  pub columns : (f n : ℕ) → IsColumn g f n → n ≤ edge_count g

-- The greatest weight of a walk from the source of a graph is the height of its sides.
abbrev pub ToSidesLaw : Type 0
ToSidesLaw = (g : Embedded) (s t outer : ℕ) (x : SidesValue) → IsSidesOf g s t outer x → (w : ℕ → ℕ) (v n : ℕ) → IsGreatest (arcs_of (bare g)) w s v n → IsHeight x w v n
