-- Points of the vertices that show reaching, and how the straight lines between them meet.
-- Letters: g sides, px and py coordinates of the vertices, u and v vertices, e and f edges, q a denominator.
--   HasNoTransitive g    no edge is transitive
--   IsDominance          one point is at most another exactly where its vertex reaches the other's; what is left of a vertex is
--                        not to the right of it, nor lower
--   IsPartWay            a number over q lies on the way from one number to another
--   HasOnLine            the straight line of an edge has a point
--   IsCommonEnd          the point is an end of both lines, at one vertex
--   DominanceLaw         the lines rise, meet one another and the vertices only at their ends, and stand in order at each vertex
--   CompactDominance     so it is for compact points where no edge is transitive; with transitive edges they still show reaching
use Rattle.std.specs.Prelude.{ℕ, ◌≡◌, ◌≢◌, ◌<◌, ◌≤◌, ◌+◌, ◌-◌, ◌*◌, ◌⊎◌}
use Rattle.st_ids.specs.Lists.{Precedes}
use Rattle.st_ids.specs.Walks.{Reaches}
use Rattle.st_sides.specs.Sides.{SidesValue, edge_count, edge_tail, edge_head, outs, ins, primal}
use Rattle.st_sides.specs.Objects.{vertex, LeftOf}
use Rattle.st_reduce.specs.Transitive.{IsTransitive}

-- no edge is transitive
abbrev pub HasNoTransitive : SidesValue → Type 0
HasNoTransitive g = (e : ℕ) → e < edge_count g → IsTransitive (primal g) e → ⊥

-- Points of the vertices: one is at most another exactly where it reaches it, and what is left is not to the right, nor lower.
pub record IsDominance (g : SidesValue) (px py : ℕ → ℕ) : Type 0 where
  pub up : (u v : ℕ) → u < g.vertices → v < g.vertices → Reaches (primal g) u v → (px u ≤ px v) × (py u ≤ py v)
  pub back : (u v : ℕ) → u < g.vertices → v < g.vertices → px u ≤ px v → py u ≤ py v → Reaches (primal g) u v
  pub left : (u v : ℕ) → u < g.vertices → v < g.vertices → LeftOf g (vertex u) (vertex v) → (px u ≤ px v) × (py v ≤ py u)

-- P over q is the number that stands at i of q from a to b
pub record IsPartWay (q a b P : ℕ) (i k : ℕ) : Type 0 where
  pub parts : i + k ≡ q
  pub is : P ≡ k * a + i * b

-- the line of e has the point (X, Y) over q
pub record HasOnLine (g : SidesValue) (px py : ℕ → ℕ) (e q X Y : ℕ) : Type 0 where
  pub i : ℕ
  pub k : ℕ
  pub x : IsPartWay q (px (edge_tail g e)) (px (edge_head g e)) X i k
  pub y : IsPartWay q (py (edge_tail g e)) (py (edge_head g e)) Y i k

-- the point is an end of both lines, and at one vertex
pub record IsCommonEnd (g : SidesValue) (px py : ℕ → ℕ) (e f q X Y : ℕ) : Type 0 where
  pub at : ℕ
  pub of_first : (at ≡ edge_tail g e) ⊎ (at ≡ edge_head g e)
  pub of_second : (at ≡ edge_tail g f) ⊎ (at ≡ edge_head g f)
  pub x : X ≡ q * px at
  pub y : Y ≡ q * py at

-- What holds of the straight lines between the points.
pub record DominanceLaw (g : SidesValue) (px py : ℕ → ℕ) : Type 0 where
  pub different : (u v : ℕ) → u < g.vertices → v < g.vertices → px u ≡ px v → py u ≡ py v → u ≡ v
  -- each line rises
  pub rises : (e : ℕ) → e < edge_count g → (px (edge_tail g e) ≤ px (edge_head g e)) × (py (edge_tail g e) ≤ py (edge_head g e)) × (px (edge_tail g e) + py (edge_tail g e) < px (edge_head g e) + py (edge_head g e))
  -- two lines meet only at a common end, and a line passes no vertex but its ends
  pub lines : (e f : ℕ) → e < edge_count g → f < edge_count g → e ≢ f → (q X Y : ℕ) → 1 ≤ q → HasOnLine g px py e q X Y → HasOnLine g px py f q X Y → IsCommonEnd g px py e f q X Y
  pub vertices : (e v : ℕ) → e < edge_count g → v < g.vertices → (q : ℕ) → 1 ≤ q → HasOnLine g px py e q (q * px v) (q * py v) → (v ≡ edge_tail g e) ⊎ (v ≡ edge_head g e)
  -- the order at a vertex: the cross product of the directions of e and f is below 0 going out, and above 0 coming in
  pub order_out : (v e f : ℕ) → v < g.vertices → Precedes e f (outs g v) → (px (edge_head g e) - px v) * (py (edge_head g f) - py v) < (py (edge_head g e) - py v) * (px (edge_head g f) - px v)
  pub order_in : (v e f : ℕ) → v < g.vertices → Precedes e f (ins g v) → (py v - py (edge_tail g e)) * (px v - px (edge_tail g f)) < (px v - px (edge_tail g e)) * (py v - py (edge_tail g f))

-- The compact points of the numbers X and Y: they are those of reaching, and the drawing is clean where no edge is transitive.
pub record CompactDominance (g : SidesValue) (px py : ℕ → ℕ) : Type 0 where
  pub points : IsDominance g px py
  pub drawing : HasNoTransitive g → DominanceLaw g px py
