-- What a picture is, as contracts see it, and the rules that its type keeps.
--   Drawing            a form, the corner of the frame, the items
--   FitsFrame frame e  the item lies in the frame and has the form of its kind
--   HasNames e         the numbers are such as the types of the fields have
--   IsPicture d        all rules together
use Rattle.std.specs.Prelude.{ℕ, ◌<◌, ◌≤◌, ◌^◌, pos, ◌≤ℤ◌, List, length}
use Rattle.std.specs.List.{AllByRecursion}
use Rattle.std.specs.Int.{w64}
use Rattle.std.specs.Int.RustNames.{FitsSigned}
use Rattle.std.specs.Prelude.{◌<ℤ◌}
use Rattle.st_ids.specs.declared.limits.TheConstants.{MOST_COORDINATE}
use Rattle.st_shape.specs.declared.point.Point.{Point}
use Rattle.st_shape.specs.declared.item.Item.{Item}
use Rattle.st_shape.specs.declared.item.Item.TheVariants.{Dot, Bar, Line, Rect, Face, Label}
use Rattle.st_shape.specs.declared.picture.Form.{Form}
use Rattle.st_shape.specs.Inside.{IsInside, point}

-- the ASCII bytes that print
abbrev pub IsPrintable : ℕ → Type 0
IsPrintable b = (32 ≤ b) × (b ≤ 126)

-- the item lies within the frame, and has the form of its kind: no bar runs backwards, a line has 2 to 4 points, a box is
-- wider and higher than 0, a label has 1 to 80 bytes that print
abbrev pub FitsFrame : Point → Item → Type 0
FitsFrame frame (Dot name p) = IsInside frame p
FitsFrame frame (Bar name y from to) = IsInside frame (point from y) × IsInside frame (point to y) × (from ≤ℤ to)
FitsFrame frame (Line name tail head points) = (2 ≤ length points) × (length points ≤ 4) × AllByRecursion (IsInside frame) points
FitsFrame frame (Rect name tail head low high) = IsInside frame low × IsInside frame high × (low.x <ℤ high.x) × (low.y <ℤ high.y)
FitsFrame frame (Face number x from to) = IsInside frame (point x from) × IsInside frame (point x to) × (from ≤ℤ to)
FitsFrame frame (Label name p text) = IsInside frame p × (1 ≤ length text) × (length text ≤ 80) × AllByRecursion IsPrintable text

-- the names are numbers of 64 bits
abbrev pub HasNames : Item → Type 0
HasNames (Dot name p) = FitsSigned w64 name
HasNames (Bar name y from to) = FitsSigned w64 name
HasNames (Line name tail head points) = FitsSigned w64 name × FitsSigned w64 tail × FitsSigned w64 head
HasNames (Rect name tail head low high) = FitsSigned w64 name × FitsSigned w64 tail × FitsSigned w64 head
HasNames (Face number x from to) = number < 2 ^ 32
HasNames (Label name p text) = FitsSigned w64 name

-- what holds of each item of a picture with this frame
abbrev pub IsItem : Point → Item → Type 0
IsItem frame item = HasNames item × FitsFrame frame item

-- the corner of a frame lies on the grid
abbrev pub IsFrame : Point → Type 0
IsFrame frame = IsInside (point (pos MOST_COORDINATE) (pos MOST_COORDINATE)) frame

-- a form, the corner of the frame, and what lies in it
pub record Drawing : Type 0 where
  pub form : Form
  pub frame : Point
  pub items : List Item

-- what holds of each picture
pub record IsPicture (d : Drawing) : Type 0 where
  pub frame : IsFrame d.frame
  pub items : AllByRecursion (IsItem d.frame) d.items
  pub few : length d.items < 2 ^ 31
