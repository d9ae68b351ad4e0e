-- The polyline picture: vertices as dots on their bars, edges as lines that go straight up in the column of their left face
-- and slant only in the rows next to their ends.
--   dot_place    the vertex v stands at the column p v and the height y v
--   dot          the vertex v as a dot there
--   bends        the points of a line from (a, i) to (b, j) whose column is k
--   bent         the points of the line of e
--   corner_of    the corner of the frame
--   polylines    the picture of dots and lines, with labels at the dots
--   IsPolylines g w p N d   d is the polyline picture under the weights w, where each vertex v stands in column p v
--   IsPolylineBy answer place g N d   it is that under some weights and some places which closures may answer
-- Letters: g sides, w weights of the edges, p columns of the vertices, N names, d picture, y heights, c columns of the dual
-- nodes, v vertex, e edge.
-- After Di Battista, Eades, Tamassia, Tollis, Graph Drawing (1999), ch. 4.
use Rattle.std.specs.Prelude.{ℕ, ℤ, pos, ◌≡◌, ◌<◌, ◌≤◌, ◌+◌, ◌-◌, List, [], ◌∷◌, cond, ◌==◌}
use Rattle.st_ids.specs.declared.ids.EdgeId.{EdgeId}
use Rattle.st_ids.specs.declared.names.Names.{Names}
use Rattle.st_shape.specs.declared.item.Item.{Item}
use Rattle.st_shape.specs.declared.item.Item.TheVariants.{Dot}
use Rattle.st_shape.specs.declared.picture.Form.TheVariants.{Polyline}
use Rattle.st_shape.specs.declared.point.Point.{Point}
use Rattle.st_shape.specs.Rules.{Drawing}
use Rattle.st_sides.specs.Sides.{SidesValue, edge_count, edge_tail, edge_head, face_left, left_of, right_of}
use Rattle.st_number.specs.Numbers.{AreNumbers}
use Rattle.st_picture.specs.Items.{grid_point, drawing}
use Rattle.st_picture.specs.Naming.{vertex_name}
use Rattle.draw_poly.specs.Numbers.{AreLong}

-- where the vertex v stands
abbrev pub dot_place : (ℕ → ℕ) → (ℕ → ℕ) → ℕ → Point
dot_place p y v = grid_point (p v) (y v)

-- the vertex v as a dot
abbrev pub dot : Names → (ℕ → ℕ) → (ℕ → ℕ) → ℕ → Item
dot N p y v = Dot (vertex_name N v) (dot_place p y v)

-- A line of height 1 is straight. A higher one bends one row above its low end and one row below its high end, in column k;
-- two equal bends are one.
abbrev pub bends : ℕ → ℕ → ℕ → ℕ → ℕ → List Point
bends a i k b j =
    cond (j == i + 1)
    (grid_point a i ∷ grid_point b j ∷ [])
    (cond (i + 1 == j - 1)
    (grid_point a i ∷ grid_point k (i + 1) ∷ grid_point b j ∷ [])
    (grid_point a i ∷ grid_point k (i + 1) ∷ grid_point k (j - 1) ∷ grid_point b j ∷ []))

-- the line of an edge, whose column is that of the node on its left
abbrev pub bent : SidesValue → (ℕ → ℕ) → (ℕ → ℕ) → (ℕ → ℕ) → ℕ → List Point
bent g y c p e = bends (p (edge_tail g e)) (y (edge_tail g e)) (c (face_left g e)) (p (edge_head g e)) (y (edge_head g e))

-- the corner of the frame: the column before that of the last node, and the height of the sink
abbrev pub corner_of : SidesValue → (ℕ → ℕ) → (ℕ → ℕ) → Point
corner_of g y c = grid_point (c g.t_star - 1) (y g.sink)

-- the picture of dots and lines
abbrev pub polylines : SidesValue → Names → (ℕ → ℕ) → (ℕ → ℕ) → (ℕ → ℕ) → Drawing
polylines g N y c p = drawing g N Polyline (corner_of g y c) (dot N p y) (bent g y c p) (dot_place p y)

-- Each vertex stands at its height, in a column from that of its left to the one before that of its right.
pub record IsPolylines (g : SidesValue) (w p : ℕ → ℕ) (N : Names) (d : Drawing) : Type 0 where
  pub y : ℕ → ℕ
  pub c : ℕ → ℕ
  pub numbers : AreNumbers g w y c
  pub from : (v : ℕ) → v < g.vertices → c (left_of g v) ≤ p v
  pub to : (v : ℕ) → v < g.vertices → p v ≤ c (right_of g v) - 1
  pub is : d ≡ polylines g N y c p

-- The picture is that under weights, each of which is one that a closure may answer on the edge, and with places, each of
-- which is one that a closure may answer for the first and the last column of the vertex.
pub record IsPolylineBy (answer : EdgeId → ℕ → Type 0) (place : ℤ → ℤ → ℤ → Type 0) (g : SidesValue) (N : Names) (d : Drawing) : Type 0 where
  pub weight : ℕ → ℕ
  pub taken : (e : ℕ) → e < edge_count g → answer (record { 0 = e }) (weight e)
  pub long : AreLong g weight
  pub at : ℕ → ℕ
  pub picture : IsPolylines g weight at N d
  pub placed : (v : ℕ) → v < g.vertices → place (pos (picture.c (left_of g v))) (pos (picture.c (right_of g v) - 1)) (pos (at v))
