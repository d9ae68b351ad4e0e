-- Heights and columns that grow, and where figures in such rows and columns meet.
-- Letters: g sides, y heights of the vertices, c columns of the dual nodes, k columns of the edges; o and p objects, e edge.
--   GrowsUp g y              y grows along each edge
--   GrowsRight g c           c grows along each arc of the dual
--   InColumns g c from to    each object keeps to columns between its left and its right
--   from_column, to_column   the first and the last column of a bar, and the column of a line
--   HasPoint                 the figure of an object has a point
--   IsInBox                  a cell lies in the box of an edge
--   FiguresLaw g             figures that share a point belong to objects of which one ends where the other begins; each
--                            cell of the frame lies in exactly one box
use Rattle.std.specs.Prelude.{ℕ, ◌≡◌, ◌≢◌, ◌-◌, ◌<◌, ◌≤◌, ◌⊎◌}
use Rattle.st_sides.specs.Objects.{Object, vertex, edge, IsObject, bottom, top, left, right}
use Rattle.st_sides.specs.Sides.{SidesValue, edge_count, edge_tail, edge_head, face_left, face_right, left_of, right_of}

-- numbers of the vertices that grow along the edges
abbrev pub GrowsUp : SidesValue → (ℕ → ℕ) → Type 0
GrowsUp g y = (e : ℕ) → e < edge_count g → y (edge_tail g e) < y (edge_head g e)

-- numbers of the dual nodes that grow along the arcs of the dual
abbrev pub GrowsRight : SidesValue → (ℕ → ℕ) → Type 0
GrowsRight g c = (e : ℕ) → e < edge_count g → c (face_left g e) < c (face_right g e)

-- each edge has a column between its left and its right
pub record HasLines (g : SidesValue) (c k : ℕ → ℕ) : Type 0 where
  pub after_left : (e : ℕ) → e < edge_count g → c (face_left g e) ≤ k e
  pub before_right : (e : ℕ) → e < edge_count g → k e < c (face_right g e)

-- each object lies in the columns from `from` to `to`, which are between its left and its right
pub record InColumns (g : SidesValue) (c : ℕ → ℕ) (from to : Object → ℕ) : Type 0 where
  pub after_left : (o : Object) → IsObject g o → c (left g o) ≤ from o
  pub before_right : (o : Object) → IsObject g o → to o < c (right g o)

-- a bar begins in the column of its left, a line stands in its own
abbrev pub from_column : SidesValue → (ℕ → ℕ) → (ℕ → ℕ) → Object → ℕ
from_column g c k (vertex v) = c (left_of g v)
from_column g c k (edge e) = k e

-- a bar ends in the column before its right, a line stands in its own
abbrev pub to_column : SidesValue → (ℕ → ℕ) → (ℕ → ℕ) → Object → ℕ
to_column g c k (vertex v) = c (right_of g v) - 1
to_column g c k (edge e) = k e

-- the figure of an object has the point (i, j)
pub record HasPoint (g : SidesValue) (y : ℕ → ℕ) (from to : Object → ℕ) (o : Object) (i j : ℕ) : Type 0 where
  pub from_left : from o ≤ i
  pub to_right : i ≤ to o
  pub from_low : y (bottom g o) ≤ j
  pub to_high : j ≤ y (top g o)

-- the cell whose low corner is (i, j) lies in the box of the edge e
pub record IsInBox (g : SidesValue) (y c : ℕ → ℕ) (e i j : ℕ) : Type 0 where
  pub arc : e < edge_count g
  pub from_left : c (face_left g e) ≤ i
  pub to_right : i < c (face_right g e)
  pub from_low : y (edge_tail g e) ≤ j
  pub to_high : j < y (edge_head g e)

-- Where figures meet, and which box has a cell, for all heights and columns that grow.
pub record FiguresLaw (g : SidesValue) : Type 0 where
  -- figures that share a point are those of an object that ends where the other begins
  pub meet : (y c : ℕ → ℕ) (from to : Object → ℕ) → GrowsUp g y → GrowsRight g c → InColumns g c from to
      → (o p : Object) → IsObject g o → IsObject g p → o ≢ p → (i j : ℕ) → HasPoint g y from to o i j → HasPoint g y from to p i j
      → (top g o ≡ bottom g p) ⊎ (top g p ≡ bottom g o)
  -- each cell of the frame lies in the box of an edge, and of one alone
  pub covered : (y c : ℕ → ℕ) → GrowsUp g y → GrowsRight g c → (i j : ℕ) → c 0 ≤ i → i < c g.t_star → y g.source ≤ j → j < y g.sink
      → (e : ℕ) × IsInBox g y c e i j
  pub once : (y c : ℕ → ℕ) → GrowsUp g y → GrowsRight g c → (e e' i j : ℕ) → IsInBox g y c e i j → IsInBox g y c e' i j → e ≡ e'
