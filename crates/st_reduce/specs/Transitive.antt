-- Transitive edges: those that a longer walk makes needless.
-- Letters: D numbered arcs, a arc, x value of sides, e edge.
--   IsTransitive D a      a walk from where the arc begins to where it ends avoids it
--   IsOneSide x e         the edge alone is the left or the right path of an inner face
--   TransitiveLaw         in the sides of a planar st-graph the one is the other
use Rattle.std.specs.Prelude.{ℕ, List, [], ◌∷◌, ◌≡◌, ◌<◌, ◌⊎◌}
use Rattle.st_ids.specs.Lists.{In}
use Rattle.st_ids.specs.Walks.{Arcs, Walk}
use Rattle.st_sides.specs.Sides.{SidesValue, IsInner, IsSides, edge_count, left_path, right_path, primal}

-- a walk from the arc's beginning to its end doesn't contain it
pub record IsTransitive (D : Arcs) (a : ℕ) : Type 0 where
  pub way : List ℕ
  pub walk : Walk D (D.from a) way (D.to a)
  pub without : In a way → ⊥

-- the edge alone is one of the two paths of an inner face
pub record IsOneSide (x : SidesValue) (e : ℕ) : Type 0 where
  pub face : ℕ
  pub inner : IsInner x face
  pub side : (left_path x face ≡ e ∷ []) ⊎ (right_path x face ≡ e ∷ [])

-- an edge is transitive exactly where it alone is the left or the right path of an inner face
abbrev pub TransitiveLaw : Type 0
TransitiveLaw = (x : SidesValue) → IsSides x → (e : ℕ) → e < edge_count x → (IsTransitive (primal x) e → IsOneSide x e) × (IsOneSide x e → IsTransitive (primal x) e)
