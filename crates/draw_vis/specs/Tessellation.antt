-- The tessellation picture: vertices as level bars, edges as boxes, the nodes of the dual as upright lines.
--   full_bar      the bar of v lies at height y v, from the column of its left to that of its right
--   box           the box of e reaches from the column of its left to that of its right, and from the height of its tail to
--                 that of its head
--   post          the line of f stands in column c f, from the height of its lowest vertex to that of its highest
--   boxes         the picture of them: bars, boxes, lines, and labels at the left ends of the bars
--   IsTessellation g w N d   d is the tessellation picture under the weights w
--   IsTessellationBy answer g N d   it is that under some weights which a closure may answer
-- Letters: g sides, w weights of the edges, N names, d picture, y heights, c columns, v vertex, e edge, f dual node.
-- After Di Battista, Eades, Tamassia, Tollis, Graph Drawing (1999), ch. 4.
use Rattle.std.specs.Prelude.{ℕ, ◌≡◌, ◌<◌, ◌+◌, ◌++◌, pos}
use Rattle.st_ids.specs.declared.ids.EdgeId.{EdgeId}
use Rattle.st_ids.specs.declared.names.Names.{Names}
use Rattle.st_shape.specs.declared.item.Item.{Item}
use Rattle.st_shape.specs.declared.item.Item.TheVariants.{Bar, Rect, Face}
use Rattle.st_shape.specs.declared.picture.Form.TheVariants.{Tessellation}
use Rattle.st_shape.specs.Rules.{Drawing}
use Rattle.st_sides.specs.Sides.{SidesValue, edge_count, edge_tail, edge_head, face_left, face_right, left_of, right_of, low, high}
use Rattle.st_number.specs.Numbers.{AreNumbers, AreWeights}
use Rattle.st_picture.specs.Bars.{bar_start}
use Rattle.st_picture.specs.Items.{grid_point, items_by, labels}
use Rattle.st_picture.specs.Naming.{vertex_name, edge_name}

-- the vertex v as a bar
abbrev pub full_bar : SidesValue → Names → (ℕ → ℕ) → (ℕ → ℕ) → ℕ → Item
full_bar g N y c v = Bar (vertex_name N v) (pos (y v)) (pos (c (left_of g v))) (pos (c (right_of g v)))

-- the edge e as a box
abbrev pub box : SidesValue → Names → (ℕ → ℕ) → (ℕ → ℕ) → ℕ → Item
box g N y c e = Rect (edge_name N e) (vertex_name N (edge_tail g e)) (vertex_name N (edge_head g e)) (grid_point (c (face_left g e)) (y (edge_tail g e))) (grid_point (c (face_right g e)) (y (edge_head g e)))

-- the node f as an upright line
abbrev pub post : SidesValue → (ℕ → ℕ) → (ℕ → ℕ) → ℕ → Item
post g y c f = Face f (pos (c f)) (pos (y (low g f))) (pos (y (high g f)))

-- the picture of bars, boxes and upright lines
abbrev pub boxes : SidesValue → Names → (ℕ → ℕ) → (ℕ → ℕ) → Drawing
boxes g N y c = record {
  form = Tessellation;
  frame = grid_point (c g.t_star) (y g.sink);
  items = items_by (full_bar g N y c) g.vertices ++ (items_by (box g N y c) (edge_count g) ++ (items_by (post g y c) (g.t_star + 1) ++ labels N (bar_start g y c) g.vertices));
}

-- The picture of the heights and columns of the graph.
pub record IsTessellation (g : SidesValue) (w : ℕ → ℕ) (N : Names) (d : Drawing) : Type 0 where
  pub y : ℕ → ℕ
  pub c : ℕ → ℕ
  pub numbers : AreNumbers g w y c
  pub is : d ≡ boxes g N y c

-- The picture is that under weights from 1, of which each is one that a closure may answer on the edge.
pub record IsTessellationBy (answer : EdgeId → ℕ → Type 0) (g : SidesValue) (N : Names) (d : Drawing) : Type 0 where
  pub weight : ℕ → ℕ
  pub taken : (e : ℕ) → e < edge_count g → answer (record { 0 = e }) (weight e)
  pub from_one : AreWeights g weight
  pub picture : IsTessellation g weight N d
