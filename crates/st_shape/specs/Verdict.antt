-- What is wrong with a picture.
--   IsRight d          nothing: it is clean, or its boxes tile the frame
--   IsWrong d fault    this fault is the one that is named first
use Rattle.std.specs.Prelude.{ℕ, List, length}
use Rattle.st_shape.specs.declared.item.Item.{Item}
use Rattle.st_shape.specs.declared.picture.Fault.{Fault}
use Rattle.st_shape.specs.declared.picture.Fault.TheVariants.{Alone, Pair, Area}
use Rattle.st_shape.specs.declared.picture.Form.{Form}
use Rattle.st_shape.specs.declared.picture.Form.TheVariants.{Visibility, Tessellation, Constrained, Polyline, Dominance}
use Rattle.st_shape.specs.Boxes.{IsTiled, IsTilingFault}
use Rattle.st_shape.specs.Clean.{FaultyAloneAt, FaultyPair}
use Rattle.st_shape.specs.Least.{NoItem, IsLeastItem, NoPair, IsLeastPair}
use Rattle.st_shape.specs.Rules.{Drawing}

-- nothing is faulty
pub record IsClean (form : Form) (items : List Item) : Type 0 where
  pub alone : NoItem (length items) (FaultyAloneAt form items)
  pub pairs : NoPair (length items) (FaultyPair items)

-- the least faulty pair, where no item is faulty by itself
pub record IsPairFault (form : Form) (items : List Item) (i j : ℕ) : Type 0 where
  pub alone : NoItem (length items) (FaultyAloneAt form items)
  pub least : IsLeastPair (length items) (FaultyPair items) i j

-- the fault is the one that is named first
abbrev pub IsFault : Form → List Item → Fault → Type 0
IsFault form items (Alone item) = IsLeastItem (length items) (FaultyAloneAt form items) item
IsFault form items (Pair first second) = IsPairFault form items first second
IsFault form items Area = ⊥

-- nothing is wrong with a picture of this form: it is clean, or in a tessellation its boxes tile the frame
abbrev pub IsRightIn : Form → Drawing → Type 0
IsRightIn Visibility d = IsClean Visibility d.items
IsRightIn Tessellation d = IsTiled d.frame d.items
IsRightIn Constrained d = IsClean Constrained d.items
IsRightIn Polyline d = IsClean Polyline d.items
IsRightIn Dominance d = IsClean Dominance d.items

-- nothing is wrong with the picture
abbrev pub IsRight : Drawing → Type 0
IsRight d = IsRightIn d.form d

-- this is wrong with a picture of this form
abbrev pub IsWrongIn : Form → Drawing → Fault → Type 0
IsWrongIn Visibility d fault = IsFault Visibility d.items fault
IsWrongIn Tessellation d fault = IsTilingFault d.frame d.items fault
IsWrongIn Constrained d fault = IsFault Constrained d.items fault
IsWrongIn Polyline d fault = IsFault Polyline d.items fault
IsWrongIn Dominance d fault = IsFault Dominance d.items fault

-- this is wrong with the picture, and named first
abbrev pub IsWrong : Drawing → Fault → Type 0
IsWrong d fault = IsWrongIn d.form d fault
