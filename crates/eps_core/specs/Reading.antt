-- How far a picture was read, and why lines are refused.
--   MissesLine bytes lines k    the first k of the lines are there, and the next is not
--   NamesNone name              no item has this first line
--   MarksNone frame name rest   the first line is an item's, and no item in the frame has it and goes on so
--   IsFirstRefused rest         the next line is neither the last nor an item's first, or is not there
--   IsSecondRefused frame rest  the next line may stand there, and the one behind it may not
--   HasRead bytes d frame n s   the lines of the picture so far were read, line n is next, and s is left
use Rattle.std.specs.Prelude.{◌≡◌, ◌≢◌, ℕ, ◌+◌, ◌*◌, ◌<◌, ◌≤◌, ◌⊎◌, List, [], ◌∷◌, ◌++◌, length, take, codes}
use Rattle.std.proofs.Common.{get_or}
use Rattle.st_shape.specs.declared.point.Point.{Point}
use Rattle.st_shape.specs.declared.item.Item.{Item}
use Rattle.st_shape.specs.Rules.{Drawing, HasNames, IsItem, IsPicture}
use Rattle.eps_core.specs.Text.{front_lines, name_line, mark_line, item_lines, ended}
use Rattle.eps_core.specs.Meaning.{IsPlain}

-- the first k lines are there, and the next is another
pub record MissesLine (bytes : List ℕ) (lines : List (List ℕ)) (k : ℕ) : Type 0 where
  pub rest : List ℕ
  pub whole : bytes ≡ ended (take k lines) ++ rest
  pub other : (behind : List ℕ) → IsPlain (get_or lines k []) → rest ≢ get_or lines k [] ++ 10 ∷ behind

-- no item has this first line
abbrev pub NamesNone : List ℕ → Type 0
NamesNone name = (item : Item) → HasNames item → name ≢ name_line item

-- the first line is an item's, and no item in the frame has it and goes on with these bytes
pub record MarksNone (frame : Point) (name rest : List ℕ) : Type 0 where
  pub named : Item
  pub names : HasNames named
  pub is : name ≡ name_line named
  pub none : (item : Item) → IsItem frame item → name ≡ name_line item → (after : List ℕ) → rest ≢ mark_line item ++ 10 ∷ after

-- the next line, if one is there, is neither the last nor an item's first
abbrev pub IsFirstRefused : List ℕ → Type 0
IsFirstRefused rest = (name behind : List ℕ) → rest ≡ name ++ 10 ∷ behind → IsPlain name → ((name ≡ codes "%%EOF" → ⊥) × NamesNone name)

-- the next line is the last and bytes stand behind it, or it is an item's first and what stands behind is not its second
pub record IsSecondRefused (frame : Point) (rest : List ℕ) : Type 0 where
  pub name : List ℕ
  pub behind : List ℕ
  pub whole : rest ≡ name ++ 10 ∷ behind
  pub either : ((name ≡ codes "%%EOF") × (0 < length behind)) ⊎ MarksNone frame name behind

-- the lines of the picture so far were read, and this line is next
pub record HasRead (bytes : List ℕ) (d : Drawing) (frame : Point) (line : ℕ) (rest : List ℕ) : Type 0 where
  pub rules : IsPicture d
  pub whole : bytes ≡ (ended (front_lines d.form d.frame) ++ ended (item_lines d.items)) ++ rest
  pub same : d.frame ≡ frame
  pub number : line ≡ 7 + 2 * length d.items
  pub room : 2 * length d.items + length rest ≤ length bytes
