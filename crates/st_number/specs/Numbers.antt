-- Heights and columns as functions, for drawings.
--   AreWeights g w        each edge weighs 1 or more
--   GivesHeights g w y    y has the height of each vertex
--   GivesColumns g c      c has the column of each dual node
--   AreNumbers g w y c    both
--   NumbersLaw g          there are heights and columns, for the same weights they are the same, they begin at 0, and they grow
-- Letters: g sides, w weights of the edges, y heights, c columns, v vertex, e edge, f dual node.
use Rattle.std.specs.Prelude.{ℕ, ◌≡◌, ◌<◌, ◌≤◌}
use Rattle.st_sides.specs.Sides.{SidesValue, edge_count, edge_tail, edge_head, face_left, face_right}
use Rattle.st_number.specs.Greatest.{IsHeight, IsColumn}

-- each edge weighs 1 or more
abbrev pub AreWeights : SidesValue → (ℕ → ℕ) → Type 0
AreWeights g w = (e : ℕ) → e < edge_count g → 1 ≤ w e

-- y has the height of each vertex under the weights
abbrev pub GivesHeights : SidesValue → (ℕ → ℕ) → (ℕ → ℕ) → Type 0
GivesHeights g w y = (v : ℕ) → v < g.vertices → IsHeight g w v (y v)

-- c has the column of each dual node
abbrev pub GivesColumns : SidesValue → (ℕ → ℕ) → Type 0
GivesColumns g c = (f : ℕ) → f ≤ g.t_star → IsColumn g f (c f)

-- y has the height of each vertex under the weights, and c the column of each dual node
pub record AreNumbers (g : SidesValue) (w y c : ℕ → ℕ) : Type 0 where
  pub height : GivesHeights g w y
  pub column : GivesColumns g c

-- Under any weights there are heights and columns, and for the same weights they are the same. They begin at 0. Columns grow
-- along the arcs of the dual, and heights along the edges where each edge weighs 1 or more.
pub record NumbersLaw (g : SidesValue) : Type 0 where
  pub some : (w : ℕ → ℕ) → (y : ℕ → ℕ) × (c : ℕ → ℕ) × AreNumbers g w y c
  pub same_heights : (w y y' : ℕ → ℕ) → GivesHeights g w y → GivesHeights g w y' → (v : ℕ) → v < g.vertices → y v ≡ y' v
  pub same_columns : (c c' : ℕ → ℕ) → GivesColumns g c → GivesColumns g c' → (f : ℕ) → f ≤ g.t_star → c f ≡ c' f
  pub source_height : (w y : ℕ → ℕ) → GivesHeights g w y → y g.source ≡ 0
  pub first_column : (c : ℕ → ℕ) → GivesColumns g c → c 0 ≡ 0
  pub heights_grow : (w y : ℕ → ℕ) → AreWeights g w → GivesHeights g w y → (e : ℕ) → e < edge_count g → y (edge_tail g e) < y (edge_head g e)
  pub columns_grow : (c : ℕ → ℕ) → GivesColumns g c → (e : ℕ) → e < edge_count g → c (face_left g e) < c (face_right g e)
