-- What a check of a drawing answers, found in stages.
-- Letters: d the drawing of the file.
--   IsShortDrawing bytes     there are at most as many bytes as the limit of drawings
--   IsDrawingIn bytes        the drawing whose text the bytes are, or the first bad line
--   clean_line d             how many items a clean drawing has
--   AnswersDrawing d         that line, or the first fault of the drawing
--   AnswersCheck bytes       all stages
use Rattle.std.specs.Prelude.{◌≡◌, ℕ, ◌<◌, ◌≤◌, pos, List, length, codes, Result, Ok, Err}
use Rattle.eps_core.specs.Meaning.{IsFirstBad}
use Rattle.eps_core.specs.Text.{text}
use Rattle.st_report.specs.Lines.{numbered}
use Rattle.st_ids.specs.declared.limits.TheConstants.{MOST_DRAWING_BYTES}
use Rattle.st_report.specs.declared.stop.Refusal.{Refusal}
use Rattle.st_report.specs.declared.stop.Refusal.TheVariants.{TooLongDrawing, Eps, NotClean}
use Rattle.st_shape.specs.Rules.{Drawing, IsPicture}
use Rattle.st_shape.specs.Verdict.{IsRight, IsWrong}
use Rattle.st_verdict.specs.Stages.{Then, IsToldBy}

-- more bytes than the limit are refused
abbrev pub IsShortDrawing : List ℕ → Result (Unit {0}) Refusal → Type 0
IsShortDrawing bytes (Ok _) = length bytes ≤ MOST_DRAWING_BYTES
IsShortDrawing bytes (Err r) = (r ≡ TooLongDrawing) × (MOST_DRAWING_BYTES < length bytes)

-- the drawing whose text the bytes are; bytes that are no text are refused with their first bad line
abbrev pub IsDrawingIn : List ℕ → Result Drawing Refusal → Type 0
IsDrawingIn bytes (Ok d) = (bytes ≡ text d) × IsPicture d
IsDrawingIn bytes (Err r) = IsToldBy (λ line. Eps line) (IsFirstBad bytes) r

-- the line of a clean drawing: how many items it has
abbrev pub clean_line : Drawing → List ℕ
clean_line d = numbered (codes "clean: ") (pos (length d.items)) (codes " items\n")

-- a drawing in which nothing is wrong is clean; any other is refused with its first fault
abbrev pub AnswersDrawing : Drawing → Result (List ℕ) Refusal → Type 0
AnswersDrawing d (Ok out) = IsRight d × (out ≡ clean_line d)
AnswersDrawing d (Err r) = IsToldBy (λ fault. NotClean fault) (IsWrong d) r

-- what is answered to the bytes of at most the limit
abbrev pub AnswersText : List ℕ → Result (List ℕ) Refusal → Type 0
AnswersText bytes = Then (IsDrawingIn bytes) AnswersDrawing

-- what is answered to the bytes of a file
abbrev pub AnswersCheck : List ℕ → Result (List ℕ) Refusal → Type 0
AnswersCheck bytes = Then (IsShortDrawing bytes) (λ _. AnswersText bytes)
