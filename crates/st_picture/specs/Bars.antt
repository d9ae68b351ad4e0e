-- Bars and lines: vertices as level bars, edges as upright lines.
-- Letters: y heights of the vertices, c columns of the dual nodes, k columns of the edges; v vertex, e edge.
--   bar         the bar of v lies at height y v, from the column of its left to the one before that of its right
--   upright     the line of e stands in column k e, from the height of its tail to that of its head
--   bars        the picture of them, with labels at the left ends of the bars
--   number_at   the number that stands in a table of code
--   HasNaturals the first entries of a table are natural numbers
--   AreTables   tables of heights, columns and lines that grow as bars and lines need
--   HasFrame    the frame is no wider and no higher than a picture may be
use Rattle.std.specs.Prelude.{ℕ, ◌+◌, ◌-◌, ◌<◌, ◌≤◌, List, [], ◌∷◌, length, slice_index_or, ℤ, pos, nat_abs, ◌≤ℤ◌}
use Rattle.st_ids.specs.declared.limits.TheConstants.{MOST_COORDINATE}
use Rattle.st_ids.specs.declared.names.Names.{Names}
use Rattle.st_shape.specs.declared.item.Item.{Item}
use Rattle.st_shape.specs.declared.item.Item.TheVariants.{Bar}
use Rattle.st_shape.specs.declared.picture.Form.{Form}
use Rattle.st_shape.specs.declared.point.Point.{Point}
use Rattle.st_shape.specs.Rules.{Drawing}
use Rattle.st_sides.specs.Sides.{SidesValue, edge_count, edge_tail, edge_head, left_of, right_of}
use Rattle.st_picture.specs.Naming.{vertex_name}
use Rattle.st_picture.specs.Growing.{GrowsUp, GrowsRight, HasLines}
use Rattle.st_picture.specs.Items.{grid_point, drawing}

-- the vertex v as a bar
abbrev pub bar : SidesValue → Names → (ℕ → ℕ) → (ℕ → ℕ) → ℕ → Item
bar g N y c v = Bar (vertex_name N v) (pos (y v)) (pos (c (left_of g v))) (pos (c (right_of g v) - 1))

-- the left end of the bar of v
abbrev pub bar_start : SidesValue → (ℕ → ℕ) → (ℕ → ℕ) → ℕ → Point
bar_start g y c v = grid_point (c (left_of g v)) (y v)

-- the two points of the line of e
abbrev pub upright : SidesValue → (ℕ → ℕ) → (ℕ → ℕ) → ℕ → List Point
upright g y k e = grid_point (k e) (y (edge_tail g e)) ∷ grid_point (k e) (y (edge_head g e)) ∷ []

-- the picture of bars and lines
abbrev pub bars : SidesValue → Names → Form → (ℕ → ℕ) → (ℕ → ℕ) → (ℕ → ℕ) → Drawing
bars g N form y c k = drawing g N form (grid_point (c g.t_star - 1) (y g.sink)) (bar g N y c) (upright g y k) (bar_start g y c)

-- the number that stands at i in a table
unfoldable pub number_at : List ℤ → ℕ → ℕ
number_at table i = nat_abs (slice_index_or table i (pos 0))

-- the table has n entries or more, and the first n are natural numbers
pub record HasNaturals (table : List ℤ) (n : ℕ) : Type 0 where
  pub size : n ≤ length table
  pub natural : (i : ℕ) → i < n → pos 0 ≤ℤ slice_index_or table i (pos 0)

-- The tables have a height for each vertex, a column for each dual node and one for each edge. Heights grow along the edges,
-- columns along the arcs of the dual, and each edge's column is between its left and its right.
pub record AreTables (g : SidesValue) (heights columns lines : List ℤ) : Type 0 where
  pub heights_are : HasNaturals heights g.vertices
  pub columns_are : HasNaturals columns (g.t_star + 1)
  pub lines_are : HasNaturals lines (edge_count g)
  pub up : GrowsUp g (number_at heights)
  pub rightward : GrowsRight g (number_at columns)
  pub between : HasLines g (number_at columns) (number_at lines)

-- the frame is no wider and no higher than a picture may be
pub record HasFrame (g : SidesValue) (heights columns : List ℤ) : Type 0 where
  pub wide : number_at columns g.t_star ≤ MOST_COORDINATE + 1
  pub high : number_at heights g.sink ≤ MOST_COORDINATE
