-- What bytes are found to be that should be the text of a drawing.
--   TextOf bytes P            the bytes are the text of a drawing that meets P
--   IsLookedAt bytes drawn    a clean drawing, the first fault of another, or the first line that no drawing has
-- Of the cases one alone holds, but for want of memory: different drawings have different texts, a drawing with a fault isn't
-- right, and has one first fault, and other bytes have one first bad line (laws of eps_core and eps_check).
use Rattle.std.specs.Prelude.{◌≡◌, ℕ, List}
use Rattle.eps_core.specs.Meaning.{IsFirstBad}
use Rattle.eps_core.specs.Text.{text}
use Rattle.st_shape.specs.Rules.{Drawing}
use Rattle.st_shape.specs.Verdict.{IsRight, IsWrong}
use Rattle.st_callers.specs.declared.read_back.Drawn.{Drawn}
use Rattle.st_callers.specs.declared.read_back.Drawn.TheVariants.{Clean, NotClean, NoDrawing, NoMemory}

-- the bytes are the text of a drawing that meets P
pub record TextOf (bytes : List ℕ) (P : Drawing → Type 0) : Type 0 where
  pub drawing : Drawing
  pub told : bytes ≡ text drawing
  pub meets : P drawing

-- a clean drawing, the first fault of another, or the first line that no drawing has
abbrev pub IsLookedAt : List ℕ → Drawn → Type 0
IsLookedAt bytes Clean = TextOf bytes IsRight
IsLookedAt bytes (NotClean fault) = TextOf bytes (λ d. IsWrong d fault)
IsLookedAt bytes (NoDrawing line) = IsFirstBad bytes line
IsLookedAt bytes NoMemory = Unit {0}
