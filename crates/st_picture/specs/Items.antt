-- The items of a picture in their order: the vertices, then the edges, each as in the file, then the labels.
-- Letters: g sides, N names, v vertex, e edge.
--   grid_point x y     the point of two natural numbers
--   items_by f n       the items f 0, f 1, .. f (n - 1)
--   labels N place n   the labels of the first n vertices, each at its place, where there is one
--   line g N points e  the edge e as a line
--   drawing ..         a picture of figures, lines and labels
--   IsFigure e         the item is that of a vertex
--   item_place e       where the label of a vertex stands that is drawn so: at its point, or at the left end of its bar
--   place_at items v   the same for the item at v
--   HasFigures items n the first n items are those of vertices
use Rattle.std.specs.Prelude.{◌≡◌, ◌<◌, slice_get, ℕ, zero, suc, List, [], ◌∷◌, ◌++◌, Option, Some, None, ℤ, pos}
use Rattle.st_ids.specs.declared.names.Names.{Names}
use Rattle.st_shape.specs.declared.item.Item.{Item}
use Rattle.st_shape.specs.declared.item.Item.TheVariants.{Dot, Bar, Line, Rect, Face, Label}
use Rattle.st_shape.specs.declared.picture.Form.{Form}
use Rattle.st_shape.specs.declared.point.Point.{Point}
use Rattle.st_shape.specs.Inside.{point}
use Rattle.st_shape.specs.Rules.{Drawing}
use Rattle.st_sides.specs.Sides.{SidesValue, edge_count, edge_tail, edge_head}
use Rattle.st_picture.specs.Naming.{vertex_name, edge_name, label_text}

-- the point of two natural numbers
abbrev pub grid_point : ℕ → ℕ → Point
grid_point x y = record { x = pos x; y = pos y }

-- the low corner of the frame
abbrev pub origin : Point
origin = grid_point 0 0

-- the items f 0 to f (n - 1)
abbrev pub items_by : (ℕ → Item) → ℕ → List Item
items_by f zero = []
items_by f (suc n) = items_by f n ++ f n ∷ []

-- one label, if there is a text
abbrev pub label_items : ℤ → Point → Option (List ℕ) → List Item
label_items name p None = []
label_items name p (Some text) = Label name p text ∷ []

-- the labels of the first n vertices
abbrev pub labels : Names → (ℕ → Point) → ℕ → List Item
labels N place zero = []
labels N place (suc n) = labels N place n ++ label_items (vertex_name N n) (place n) (label_text N n)

-- the edge e as a line from its tail to its head
abbrev pub line : SidesValue → Names → (ℕ → List Point) → ℕ → Item
line g N points e = Line (edge_name N e) (vertex_name N (edge_tail g e)) (vertex_name N (edge_head g e)) (points e)

-- a figure for each vertex, a line for each edge, and the labels
abbrev pub drawing : SidesValue → Names → Form → Point → (ℕ → Item) → (ℕ → List Point) → (ℕ → Point) → Drawing
drawing g N form frame figure points place = record {
  form = form;
  frame = frame;
  items = items_by figure g.vertices ++ (items_by (line g N points) (edge_count g) ++ labels N place g.vertices);
}

-- the item is a vertex
abbrev pub IsFigure : Item → Type 0
IsFigure (Dot name p) = Unit {0}
IsFigure (Bar name y from to) = Unit {0}
IsFigure (Line name tail head points) = ⊥
IsFigure (Rect name tail head low high) = ⊥
IsFigure (Face number x from to) = ⊥
IsFigure (Label name p text) = ⊥

-- a point itself, or the left end of a bar
abbrev pub item_place : Item → Point
item_place (Dot name p) = p
item_place (Bar name y from to) = point from y
item_place (Line name tail head points) = origin
item_place (Rect name tail head low high) = origin
item_place (Face number x from to) = origin
item_place (Label name p text) = origin

-- the place of an item, if there is one
abbrev pub place_in : Option Item → Point
place_in None = origin
place_in (Some e) = item_place e

-- the place of the item at v
unfoldable pub place_at : List Item → ℕ → Point
place_at items v = place_in (slice_get items v)

-- the item at v is a vertex
pub record IsFigureAt (items : List Item) (v : ℕ) : Type 0 where
  pub figure : Item
  pub is : slice_get items v ≡ Some figure
  pub kind : IsFigure figure

-- the first n items are vertices
abbrev pub HasFigures : List Item → ℕ → Type 0
HasFigures items n = (v : ℕ) → v < n → IsFigureAt items v
