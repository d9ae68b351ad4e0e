-- What a command answers over memory.
--   IsRefusedAs words file s line     the answer is a refusal, which has this status and this line
--   IsAnsweredAs words file result    the output is the answer, or the refusal is
-- Words and bytes have one answer, but that there may be several orientations (`stdraw_core::laws::one_answer`).
use Rattle.std.specs.Prelude.{◌≡◌, ℕ, List, Result, Ok, Err}
use Rattle.st_report.specs.Lines.{line_of, status_of}
use Rattle.st_report.specs.declared.stop.Refusal.{Refusal}
use Rattle.st_report.specs.declared.stop.Status.{Status}
use Rattle.stdraw_core.specs.Answer.{IsAnswer}
use Rattle.st_callers.specs.declared.over_memory.Unanswered.{Unanswered}
use Rattle.st_callers.specs.declared.over_memory.Unanswered.TheVariants.{Refused, NoMemory}

-- the answer is a refusal, which has this status and this line
pub record IsRefusedAs (words : List (List ℕ)) (file : List ℕ) (s : Status) (line : List ℕ) : Type 0 where
  pub refusal : Refusal
  pub answer : IsAnswer words file (Err refusal)
  pub status : s ≡ status_of refusal
  pub told : line ≡ line_of refusal

-- the output is the answer, or the refusal is
abbrev pub IsAnsweredAs : List (List ℕ) → List ℕ → Result (List ℕ) Unanswered → Type 0
IsAnsweredAs words file (Ok output) = IsAnswer words file (Ok output)
IsAnsweredAs words file (Err (Refused s line)) = IsRefusedAs words file s line
IsAnsweredAs words file (Err NoMemory) = Unit {0}
