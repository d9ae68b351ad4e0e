-- Tables of heights and columns, as the code has them.
--   IsLaidOut g heights columns           a height for each vertex and a column for each dual node, which grow, in a picture's range
--   AreTablesBy answer g heights columns  the heights and columns of the graph under weights which a closure may answer
--   frame_of g y c                        the corner of the frame of a tessellation
--   AreEdgeColumns g c lines              for each edge the column of the node on its left
-- Letters: g sides, y heights, c columns, e edge.
use Rattle.std.specs.Prelude.{ℕ, ◌≡◌, ◌+◌, ◌<◌, ◌≤◌, List, ℤ}
use Rattle.st_ids.specs.declared.limits.TheConstants.{MOST_COORDINATE}
use Rattle.st_ids.specs.declared.ids.EdgeId.{EdgeId}
use Rattle.st_shape.specs.declared.point.Point.{Point}
use Rattle.st_sides.specs.Sides.{SidesValue, edge_count, face_left}
use Rattle.st_number.specs.Numbers.{AreNumbers, AreWeights}
use Rattle.st_picture.specs.Bars.{number_at, HasNaturals}
use Rattle.st_picture.specs.Growing.{GrowsUp, GrowsRight}
use Rattle.st_picture.specs.Items.{grid_point}

-- There is a height for each vertex and a column for each dual node; heights grow along the edges, and columns along the arcs
-- of the dual; the last of them are no greater than a coordinate may be.
pub record IsLaidOut (g : SidesValue) (heights columns : List ℤ) : Type 0 where
  pub heights_are : HasNaturals heights g.vertices
  pub columns_are : HasNaturals columns (g.t_star + 1)
  pub up : GrowsUp g (number_at heights)
  pub rightward : GrowsRight g (number_at columns)
  pub high : number_at heights g.sink ≤ MOST_COORDINATE
  pub wide : number_at columns g.t_star ≤ MOST_COORDINATE

-- They are the heights and the columns of the graph under weights from 1, of which each is one that a closure may answer on
-- the edge.
pub record AreTablesBy (answer : EdgeId → ℕ → Type 0) (g : SidesValue) (heights columns : List ℤ) : Type 0 where
  pub weight : ℕ → ℕ
  pub taken : (e : ℕ) → e < edge_count g → answer (record { 0 = e }) (weight e)
  pub from_one : AreWeights g weight
  pub numbers : AreNumbers g weight (number_at heights) (number_at columns)

-- the corner of the frame of a tessellation
abbrev pub frame_of : SidesValue → (ℕ → ℕ) → (ℕ → ℕ) → Point
frame_of g y c = grid_point (c g.t_star) (y g.sink)

-- for each edge the column of the node on its left
pub record AreEdgeColumns (g : SidesValue) (c : ℕ → ℕ) (lines : List ℤ) : Type 0 where
  pub lines_are : HasNaturals lines (edge_count g)
  pub each : (e : ℕ) → e < edge_count g → number_at lines e ≡ c (face_left g e)
