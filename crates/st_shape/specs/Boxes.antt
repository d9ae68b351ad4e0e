-- Boxes that tile a frame.
-- Frame: x grows to the right, y upwards; the cell (i, j) has the low corner (i, j) and is one unit wide and high.
--   IsCellOf low high i j       the cell lies between the corners
--   HasCell e i j               the item e is a box with this cell
--   IsTiled frame items         exactly one box has each cell of the frame
--   ShareCellAt items k m       the items at k and m are boxes with a cell in common
--   IsTilingFault frame items   this fault is named first: the least such pair, else a wrong sum of areas
-- Stated by cells; the code compares pairs and sums areas.
use Rattle.std.specs.Prelude.{◌≡◌, ◌≢◌, ℕ, ◌*◌, List, length, slice_get, Some, sum_by, pos, nat_abs, ◌-ℤ◌, ◌<ℤ◌, ◌≤ℤ◌}
use Rattle.st_shape.specs.declared.point.Point.{Point}
use Rattle.st_shape.specs.declared.item.Item.{Item}
use Rattle.st_shape.specs.declared.item.Item.TheVariants.{Dot, Bar, Line, Rect, Face, Label}
use Rattle.st_shape.specs.declared.picture.Fault.{Fault}
use Rattle.st_shape.specs.declared.picture.Fault.TheVariants.{Alone, Pair, Area}
use Rattle.st_shape.specs.Least.{NoPair, IsLeastPair}

-- the cell with the low corner (i, j) lies between these corners
pub record IsCellOf (low high : Point) (i j : ℕ) : Type 0 where
  pub left : low.x ≤ℤ pos i
  pub right : pos i <ℤ high.x
  pub below : low.y ≤ℤ pos j
  pub above : pos j <ℤ high.y

-- the item is a box with this cell
abbrev pub HasCell : Item → ℕ → ℕ → Type 0
HasCell (Dot name p) i j = ⊥
HasCell (Bar name y from to) i j = ⊥
HasCell (Line name tail head points) i j = ⊥
HasCell (Rect name tail head low high) i j = IsCellOf low high i j
HasCell (Face number x from to) i j = ⊥
HasCell (Label name p text) i j = ⊥

-- the item at k is a box with this cell
pub record HasCellAt (items : List Item) (i j k : ℕ) : Type 0 where
  pub e : Item
  pub e_is : slice_get items k ≡ Some e
  pub cell : HasCell e i j

-- exactly one box has this cell
pub record HasOneBox (items : List Item) (i j : ℕ) : Type 0 where
  pub k : ℕ
  pub box : HasCellAt items i j k
  pub only : (m : ℕ) → HasCellAt items i j m → m ≡ k

-- exactly one box has each cell of the frame
pub record IsTiled (frame : Point) (items : List Item) : Type 0 where
  pub each : (i j : ℕ) → pos i <ℤ frame.x → pos j <ℤ frame.y → HasOneBox items i j

-- the two items are boxes with a cell in common
pub record ShareCell (e f : Item) : Type 0 where
  pub i : ℕ
  pub j : ℕ
  pub first : HasCell e i j
  pub second : HasCell f i j

-- the items at k and m are boxes with a cell in common
pub record ShareCellAt (items : List Item) (k m : ℕ) : Type 0 where
  pub e : Item
  pub f : Item
  pub e_is : slice_get items k ≡ Some e
  pub f_is : slice_get items m ≡ Some f
  pub share : ShareCell e f

-- the area between these corners
abbrev pub area_between : Point → Point → ℕ
area_between low high = nat_abs (high.x -ℤ low.x) * nat_abs (high.y -ℤ low.y)

-- the area of a box
abbrev pub area_of : Item → ℕ
area_of (Dot name p) = 0
area_of (Bar name y from to) = 0
area_of (Line name tail head points) = 0
area_of (Rect name tail head low high) = area_between low high
area_of (Face number x from to) = 0
area_of (Label name p text) = 0

-- the area of the frame
abbrev pub frame_area : Point → ℕ
frame_area frame = nat_abs frame.x * nat_abs frame.y

-- no two boxes have a cell in common, and their areas do not sum to the frame's
pub record IsAreaFault (frame : Point) (items : List Item) : Type 0 where
  pub pairs : NoPair (length items) (ShareCellAt items)
  pub sum : sum_by area_of items ≢ frame_area frame

-- the fault is the one that is named first
abbrev pub IsTilingFault : Point → List Item → Fault → Type 0
IsTilingFault frame items (Alone item) = ⊥
IsTilingFault frame items (Pair first second) = IsLeastPair (length items) (ShareCellAt items) first second
IsTilingFault frame items Area = IsAreaFault frame items
