-- What a dominance drawing of a graph is: its picture, and the points of its vertices.
--   AreDots g dummies points     the points of vertices and dummies lie between (0, 0) and the sink's, which lies on the grid
--   IsCompactLayout h .. points  the points are the compact points of the two numbers of a planar st-graph
--   IsDominanceOf g .. d ps      d is the dominance picture of g, and ps are the points of its vertices in the reduced graph
--   AreDominancePoints g .. ps   whatever the names, ps are the points of a dominance picture of g
-- Letters: g graph with its lists, s source, t sink, outer an end on the outer face, x sides of g, h its reduced graph, N names,
-- d picture, v and w vertices, e edge.
use Rattle.std.specs.Prelude.{ℕ, ◌≡◌, ◌<◌, ◌≤◌, List, length, Option, Some}
use Rattle.st_ids.specs.declared.names.Names.{Names}
use Rattle.st_ids.specs.declared.ids.VertexId.{VertexId}
use Rattle.st_shape.specs.declared.point.Point.{Point}
use Rattle.st_shape.specs.Inside.{IsInside}
use Rattle.st_shape.specs.Rules.{Drawing, IsFrame}
use Rattle.st_map.specs.Embedded.{Embedded}
use Rattle.st_sides.specs.Sides.{SidesValue, edge_count}
use Rattle.st_sides.specs.Held.{HasSizes}
use Rattle.st_sides.specs.SidesOf.{IsSidesOf}
use Rattle.st_order.specs.Numbers.{HasNumbers}
use Rattle.st_reduce.specs.Marks.{dummy_numbers}
use Rattle.st_reduce.specs.Reduced.{IsReduced, dummy_at}
use Rattle.draw_dom.specs.Compact.{point_x, point_y}
use Rattle.draw_dom.specs.Pictures.{compact_point, points_and_lines}
use Rattle.draw_dom.specs.Points.{ArePoints, vertex_point}

-- There is a point for each vertex and each dummy. They lie between (0, 0) and the point of the sink, and this on the grid.
pub record AreDots (g : SidesValue) (dummies : List (Option VertexId)) (points : List Point) : Type 0 where
  pub vertices : g.vertices ≤ length points
  pub size : length dummies ≡ edge_count g
  pub dummies_in : (e w : ℕ) → e < edge_count g → dummy_at (dummy_numbers dummies) e ≡ Some w → w < length points
  pub inside : (v : ℕ) → v < length points → IsInside (vertex_point points g.sink) (vertex_point points v)
  pub grid : IsFrame (vertex_point points g.sink)

-- The points are the compact points of the two numbers of the vertices of h.
pub record IsCompactLayout (h : Embedded) (s t outer : ℕ) (points : List Point) : Type 0 where
  pub sides : SidesValue
  pub are_sides : IsSidesOf h s t outer sides
  pub sizes : HasSizes sides
  pub x : ℕ → ℕ
  pub y : ℕ → ℕ
  pub at_x : ℕ → ℕ
  pub at_y : ℕ → ℕ
  pub numbers : HasNumbers sides x y at_x at_y
  pub are : ArePoints (point_x x y at_x) (point_y x y at_y) sides.vertices points

-- The picture and the points come from the two numbers of the vertices of the reduced graph.
pub record IsDominanceOf (g : Embedded) (s t outer : ℕ) (g_sides : SidesValue) (N : Names) (d : Drawing) (points : List Point) : Type 0 where
  pub dummies : List (Option ℕ)
  pub reduced : Embedded
  pub is_reduced : IsReduced g dummies reduced
  pub sides : SidesValue
  pub are_sides : IsSidesOf reduced s t outer sides
  pub sizes : HasSizes sides
  pub x : ℕ → ℕ
  pub y : ℕ → ℕ
  pub at_x : ℕ → ℕ
  pub at_y : ℕ → ℕ
  pub numbers : HasNumbers sides x y at_x at_y
  pub picture : d ≡ points_and_lines g_sides N (dummy_at dummies) (compact_point x y at_x at_y)
  pub points_are : ArePoints (point_x x y at_x) (point_y x y at_y) g.vertices points

-- For all names there is a dominance picture of g with these points.
abbrev pub AreDominancePoints : Embedded → ℕ → ℕ → ℕ → SidesValue → List Point → Type 0
AreDominancePoints g s t outer g_sides points = (N : Names) → (d : Drawing) × IsDominanceOf g s t outer g_sides N d points
