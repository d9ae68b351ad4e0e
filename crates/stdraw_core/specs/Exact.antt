-- Status, line and output are those of the answer.
--   AreTold words src bytes    the bytes are those that the source has left, where the words ask for a file
--   EndsWith                   an output was written whole and flushed, or a refusal was told
--   EndsAlike                  so it was with an answer that is like this one
--   Exact                      so it is for each answer to the words and the bytes, where nothing outside has failed
use Rattle.std.specs.Prelude.{◌≡◌, ◌≢◌, ℕ, List, IsTrue, Some, Result, Ok, Err}
use Rattle.st_port.specs.Streams.{SourceState, SinkState, Gains}
use Rattle.st_report.specs.declared.stop.Refusal.{Refusal}
use Rattle.st_report.specs.declared.stop.Status.{Status}
use Rattle.st_report.specs.declared.stop.Status.TheVariants.{Done, NoMemory, ReadFault, WriteFault}
use Rattle.st_report.specs.Lines.{line_of, status_of}
use Rattle.st_report.specs.Telling.{Tells}
use Rattle.st_words.specs.declared.words.Task.{Task}
use Rattle.st_words.specs.Words.{IsTask, IsFileless}
use Rattle.stdraw_core.specs.Answer.{IsAnswer, AreAlike}

-- where the words ask for a task on a file, the bytes are those that the source has left; else any bytes do
abbrev pub AreTold : List (List ℕ) → SourceState → List ℕ → Type 0
AreTold words src bytes = (task : Task) → IsTask words task → (IsFileless task → ⊥) → src.left ≡ Some bytes

-- the output was written whole and flushed, and nothing told; or the refusal was told, and nothing written
abbrev pub EndsWith : SinkState → SinkState → SinkState → SinkState → Status → Result (List ℕ) Refusal → Type 0
EndsWith out out' diag diag' s (Ok text) = (s ≡ Done) × Gains out out' text × IsTrue out'.is_flushed × (diag' ≡ diag)
EndsWith out out' diag diag' s (Err refusal) = (s ≡ status_of refusal) × Tells diag diag' (line_of refusal) × (out' ≡ out)

-- The run ended with an answer to the words and the bytes, which is this one; but where the words ask for an orientation, both
-- may be outputs.
pub record EndsAlike (words : List (List ℕ)) (bytes : List ℕ) (answer : Result (List ℕ) Refusal) (out out' diag diag' : SinkState) (s : Status) : Type 0 where
  pub found : Result (List ℕ) Refusal
  pub is : IsAnswer words bytes found
  pub alike : AreAlike words answer found
  pub ends : EndsWith out out' diag diag' s found

-- Whatever is the answer to the words and the bytes, the run ends with it, unless memory ran out, a read failed or a write failed.
abbrev pub Exact : List (List ℕ) → SourceState → SinkState → SinkState → SinkState → SinkState → Status → Type 0
Exact words src out out' diag diag' s = (bytes : List ℕ) (answer : Result (List ℕ) Refusal) → AreTold words src bytes → IsAnswer words bytes answer
    → s ≢ NoMemory → s ≢ ReadFault → s ≢ WriteFault → EndsAlike words bytes answer out out' diag diag' s
