-- Where vertices stand, by their names, and what a clean picture may have.
--   IsListed vertices n k    the list has the vertex named n at the place k
--   AreDistinct vertices m   of its first m each has a greater name than those before
--   IsOnVertex items n v     the point lies on the figure of a vertex named n
--   IsInPlace                a vertex that the list has at its place, a line that rises and ends at its vertices, or a label
use Rattle.std.specs.Prelude.{◌≡◌, Any, ℕ, ◌-◌, ◌<◌, Bool, false, ℤ, Some, List, ◌<ℤ◌, length, slice_get}
use Rattle.eps_check.specs.declared.names.Vertex.{Vertex}
use Rattle.st_shape.specs.declared.point.Point.{Point}
use Rattle.st_shape.specs.declared.item.Item.{Item}
use Rattle.st_shape.specs.declared.item.Item.TheVariants.{Dot, Bar, Line, Rect, Face, Label}
use Rattle.st_shape.specs.declared.picture.Form.{Form}
use Rattle.st_shape.specs.Clean.{IsRisingLine, IsVertexNamed, point_of}
use Rattle.st_shape.specs.Meeting.{Meet}

-- the list has the vertex named n at the place k
pub record IsListed (vertices : List Vertex) (n : ℤ) (k : ℕ) : Type 0 where
  pub at : ℕ
  pub vertex : Vertex
  pub is : slice_get vertices at ≡ Some vertex
  pub name : vertex.name ≡ n
  pub place : vertex.place ≡ k

-- of the first m of the list each has a greater name than those before it
pub record AreDistinct (vertices : List Vertex) (m : ℕ) : Type 0 where
  pub pairs : (i j : ℕ) (s t : Vertex) → i < j → j < m → slice_get vertices i ≡ Some s → slice_get vertices j ≡ Some t → s.name <ℤ t.name

-- the point lies on the figure of the vertex
abbrev pub IsOnFigure : Item → Point → Type 0
IsOnFigure (Dot name p) v = Meet (point_of v) (point_of p)
IsOnFigure (Bar name y from to) v = Meet (point_of v) (record { a = record { x = from; y = y }; b = record { x = to; y = y } })
IsOnFigure (Line name tail head points) v = ⊥
IsOnFigure (Rect name tail head low high) v = ⊥
IsOnFigure (Face number x from to) v = ⊥
IsOnFigure (Label name p text) v = ⊥

-- the item is a vertex named n, and the point lies on its figure
pub record IsVertexAt (e : Item) (n : ℤ) (v : Point) : Type 0 where
  pub named : IsVertexNamed n e
  pub on : IsOnFigure e v

-- the point lies on the figure of a vertex named n
pub record IsOnVertex (items : List Item) (n : ℤ) (v : Point) : Type 0 where
  pub k : ℕ
  pub e : Item
  pub e_is : slice_get items k ≡ Some e
  pub vertex : IsVertexAt e n v

-- the line rises, and its ends lie on the figures of its tail and of its head
pub record IsLineInPlace (form : Form) (items : List Item) (tail head : ℤ) (points : List Point) : Type 0 where
  pub rises : IsRisingLine form points
  pub first : (v : Point) → slice_get points 0 ≡ Some v → IsOnVertex items tail v
  pub last : (v : Point) → slice_get points (length points - 1) ≡ Some v → IsOnVertex items head v

-- the line rises, and there are vertices of the names of its tail and its head
pub record IsSoundLine (form : Form) (items : List Item) (tail head : ℤ) (points : List Point) : Type 0 where
  pub rises : IsRisingLine form points
  pub tail_there : Any (λ e. IsVertexNamed tail e) items
  pub head_there : Any (λ e. IsVertexNamed head e) items

-- the item at k is one that a clean picture may have
abbrev pub IsInPlace : Form → Bool → List Vertex → List Item → ℕ → Item → Type 0
IsInPlace form slanted vertices items k (Dot name p) = IsListed vertices name k
IsInPlace form slanted vertices items k (Bar name y from to) = (slanted ≡ false) × IsListed vertices name k
IsInPlace form slanted vertices items k (Line name tail head points) = IsLineInPlace form items tail head points
IsInPlace form slanted vertices items k (Rect name tail head low high) = ⊥
IsInPlace form slanted vertices items k (Face number x from to) = ⊥
IsInPlace form slanted vertices items k (Label name p text) = Unit {0}

-- each of the first n items is one that a clean picture may have
pub record AreInPlace (form : Form) (slanted : Bool) (vertices : List Vertex) (items : List Item) (n : ℕ) : Type 0 where
  pub each : (k : ℕ) (e : Item) → k < n → slice_get items k ≡ Some e → IsInPlace form slanted vertices items k e
