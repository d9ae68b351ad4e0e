-- Which items, and which two items, of a picture are faulty, in every form but the tessellation.
-- The figure of a vertex is its bar, or its dot as a segment of one point. The first point of a line has the name of its
-- tail and the last the name of its head.
--   shape_of e                          what the rules see of an item: a vertex, a line, or neither
--   RisesIn form s                      the segment rises, as lines have to in this form
--   FaultyAlone form items e            a box or a face; a line that doesn't rise, or an end of which no vertex has the name
--   FaultyVertexAndLine                 a point that they share is no end of the line with the vertex's name, or such an end
--                                       is no point of the figure
--   CrossAway                           two lines share a point that is not an end of both, of one name
--   FaultyShapes a b                    the rules on two items
--   FaultyAloneAt form items i          the item at i is faulty by itself
--   FaultyPair items i j                the items at i and j are a faulty pair
-- A line that rises doesn't meet itself, so this isn't asked.
use Rattle.std.specs.Prelude.{◌≡◌, ℕ, ◌+◌, ◌-◌, ◌⊎◌, List, length, slice_get, Some, Any, ℤ, ◌+ℤ◌, ◌<ℤ◌, ◌≤ℤ◌}
use Rattle.st_shape.specs.declared.point.Point.{Point}
use Rattle.st_shape.specs.declared.point.Segment.{Segment}
use Rattle.st_shape.specs.declared.item.Item.{Item}
use Rattle.st_shape.specs.declared.item.Item.TheVariants.{Dot, Bar, Line, Rect, Face, Label}
use Rattle.st_shape.specs.declared.picture.Form.{Form}
use Rattle.st_shape.specs.declared.picture.Form.TheVariants.{Visibility, Tessellation, Constrained, Polyline, Dominance}
use Rattle.st_shape.specs.Meeting.{Ratio, Share, IsAt, Meet}

-- the point a as a segment
abbrev pub point_of : Point → Segment
point_of a = record { a = a; b = a }

-- what the rules on two items see of one
pub data Shape : Type 0 where
  vertex : ℤ → Segment → Shape
  line : ℤ → ℤ → List Point → Shape
  other : Shape

-- a vertex by its name and its figure, a line by its tail, its head and its points
abbrev pub shape_of : Item → Shape
shape_of (Dot name p) = vertex name (point_of p)
shape_of (Bar name y from to) = vertex name (record { a = record { x = from; y = y }; b = record { x = to; y = y } })
shape_of (Line name tail head points) = line tail head points
shape_of (Rect name tail head low high) = other
shape_of (Face number x from to) = other
shape_of (Label name p text) = other

-- the item is a vertex of this name
abbrev pub IsVertexNamed : ℤ → Item → Type 0
IsVertexNamed n (Dot name p) = name ≡ n
IsVertexNamed n (Bar name y from to) = name ≡ n
IsVertexNamed n (Line name tail head points) = ⊥
IsVertexNamed n (Rect name tail head low high) = ⊥
IsVertexNamed n (Face number x from to) = ⊥
IsVertexNamed n (Label name p text) = ⊥

-- s leads from a point of the line to the next
pub record IsSegmentOf (points : List Point) (s : Segment) : Type 0 where
  pub k : ℕ
  pub a_is : slice_get points k ≡ Some s.a
  pub b_is : slice_get points (k + 1) ≡ Some s.b

-- neither x nor y falls from a to b, and their sum grows
pub record RisesInDominance (s : Segment) : Type 0 where
  pub x : s.a.x ≤ℤ s.b.x
  pub y : s.a.y ≤ℤ s.b.y
  pub sum : (s.a.x +ℤ s.a.y) <ℤ (s.b.x +ℤ s.b.y)

-- what a segment of a line has to do in a picture of this form
abbrev pub RisesIn : Form → Segment → Type 0
RisesIn Visibility s = s.a.y <ℤ s.b.y
RisesIn Tessellation s = s.a.y <ℤ s.b.y
RisesIn Constrained s = s.a.y <ℤ s.b.y
RisesIn Polyline s = s.a.y <ℤ s.b.y
RisesIn Dominance s = RisesInDominance s

-- each segment of the line rises
abbrev pub IsRisingLine : Form → List Point → Type 0
IsRisingLine form points = (s : Segment) → IsSegmentOf points s → RisesIn form s

-- v is the first point of the line, and that counts, or it is the last, and that counts
abbrev pub IsEnd : Type 0 → Type 0 → List Point → Point → Type 0
IsEnd First Last points v =
    ((slice_get points 0 ≡ Some v) × First) ⊎ ((slice_get points (length points - 1) ≡ Some v) × Last)

-- v is the first point of the line, which has the name of its tail, or the last, which has that of its head
abbrev pub IsEndNamed : ℤ → ℤ → List Point → ℤ → Point → Type 0
IsEndNamed tail head points name v = IsEnd (tail ≡ name) (head ≡ name) points v

-- the line and the figure share a point that is no end that counts
pub record SharesInside (First Last : Type 0) (figure : Segment) (points : List Point) : Type 0 where
  pub p : Ratio
  pub s : Segment
  pub segment : IsSegmentOf points s
  pub shared : Share s figure p
  pub inside : (v : Point) → IsEnd First Last points v → ¬ IsAt p v

-- an end that counts is no point of the figure
pub record MissesEnd (First Last : Type 0) (figure : Segment) (points : List Point) : Type 0 where
  pub v : Point
  pub end : IsEnd First Last points v
  pub off : ¬ Meet (point_of v) figure

-- a line and a vertex with this figure, where First and Last say whether the line's tail and head have the vertex's name
abbrev pub IsFaultyAt : Type 0 → Type 0 → Segment → List Point → Type 0
IsFaultyAt First Last figure points = SharesInside First Last figure points ⊎ MissesEnd First Last figure points

abbrev pub FaultyVertexAndLine : ℤ → Segment → ℤ → ℤ → List Point → Type 0
FaultyVertexAndLine name figure tail head points = IsFaultyAt (tail ≡ name) (head ≡ name) figure points

-- two lines share a point that is not an end of each, of one name
pub record CrossAway (tail head : ℤ) (points : List Point) (tail' head' : ℤ) (points' : List Point) : Type 0 where
  pub p : Ratio
  pub s : Segment
  pub t : Segment
  pub first : IsSegmentOf points s
  pub second : IsSegmentOf points' t
  pub shared : Share s t p
  pub away : (name : ℤ) (v : Point) → IsEndNamed tail head points name v → IsEndNamed tail' head' points' name v → ¬ IsAt p v

abbrev pub FaultyShapes : Shape → Shape → Type 0
FaultyShapes (vertex m s) (vertex n t) = (m ≡ n) ⊎ Meet s t
FaultyShapes (vertex m s) (line tail head points) = FaultyVertexAndLine m s tail head points
FaultyShapes (line tail head points) (vertex m s) = FaultyVertexAndLine m s tail head points
FaultyShapes (line tail head points) (line tail' head' points') = CrossAway tail head points tail' head' points'
FaultyShapes (vertex m s) other = ⊥
FaultyShapes (line tail head points) other = ⊥
FaultyShapes other (vertex m s) = ⊥
FaultyShapes other (line tail head points) = ⊥
FaultyShapes other other = ⊥

-- the items at i and j are a faulty pair
pub record FaultyPair (items : List Item) (i j : ℕ) : Type 0 where
  pub e : Item
  pub f : Item
  pub e_is : slice_get items i ≡ Some e
  pub f_is : slice_get items j ≡ Some f
  pub faulty : FaultyShapes (shape_of e) (shape_of f)

-- an item of no such picture, a line that does not rise, or one whose tail or head is no vertex
abbrev pub FaultyAlone : Form → List Item → Item → Type 0
FaultyAlone form items (Dot name p) = ⊥
FaultyAlone form items (Bar name y from to) = ⊥
FaultyAlone form items (Line name tail head points) =
    ¬ IsRisingLine form points ⊎ (¬ Any (λ e. IsVertexNamed tail e) items ⊎ ¬ Any (λ e. IsVertexNamed head e) items)
FaultyAlone form items (Rect name tail head low high) = Unit {0}
FaultyAlone form items (Face number x from to) = Unit {0}
FaultyAlone form items (Label name p text) = ⊥

-- the item at i is faulty by itself
pub record FaultyAloneAt (form : Form) (items : List Item) (i : ℕ) : Type 0 where
  pub e : Item
  pub e_is : slice_get items i ≡ Some e
  pub faulty : FaultyAlone form items e
