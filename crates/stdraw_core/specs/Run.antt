-- How a run ends, for any source and sinks.
--   most_bytes              the greatest number of bytes of a file that a task reads
--   TakesAtMost             at most so many bytes were taken from the source
--   TakesFew                no more than the task's file may have, and one read
--   IsFailedRead            reads gave their bytes, and then one failed
--   Leaves, HasReadInput    what a refusal, and a task with an output, leave of the source
--   Finds                   what a file was found to be: a graph, or why it has none
--   IsReady, IsRefusedWith  the answer to the bytes is an output, or a refusal, and what was read for it
--   Decides                 what was found out before anything was written
--   EndsBy                  the five ways to end, with the status of each
-- The bytes are those that the source had left, where it tells them.
use Rattle.std.specs.Prelude.{◌≡◌, ℕ, ◌+◌, ◌<◌, ◌≤◌, List, length, IfSome, IsTrue, Result, Ok, Err}
use Rattle.std.specs.declared.option.Option.{Option}
use Rattle.std.specs.Io.KnownBytes.{Consumes, IsAtEnd}
use Rattle.st_ids.specs.declared.limits.TheConstants.{MOST_BYTES}
use Rattle.st_ids.specs.declared.limits.TheConstants.{MOST_DRAWING_BYTES}
use Rattle.st_input.specs.InputGraph.{InputGraph}
use Rattle.st_port.specs.Faults.{Rose}
use Rattle.st_port.specs.Reading.{Reads}
use Rattle.st_port.specs.declared.port.ReadEnd.TheVariants.{Failed}
use Rattle.st_port.specs.Streams.{SourceState, SinkState, Gains, GainsFront}
use Rattle.st_report.specs.declared.stop.Status.{Status}
use Rattle.st_report.specs.declared.stop.Status.TheVariants as status
use Rattle.st_report.specs.declared.stop.Refusal.{Refusal}
use Rattle.st_report.specs.declared.stop.Refusal.TheVariants.{Words, TooManyBytes, TooLongDrawing}
use Rattle.st_report.specs.declared.stop.Stop.{Stop}
use Rattle.st_report.specs.declared.stop.Stop.TheVariants.{Refused, ReadFault, WriteFault, NoMemory}
use Rattle.st_words.specs.declared.words.Task.{Task}
use Rattle.st_words.specs.declared.words.Task.TheVariants.{File, Check, Orient, Session, Gen, Bench}
use Rattle.st_words.specs.Words.{IsTask, IsFileless}
use Rattle.st_report.specs.Telling.{Tells}
use Rattle.st_report.specs.Lines.{status_of, line_of, stop_line}
use Rattle.st_verdict.specs.File.{IsGraphWithin}
use Rattle.stdraw_core.specs.Answer.{IsAnswer}

-- the greatest number of bytes of a file that the task reads; for a generated graph it reads none
abbrev pub most_bytes : Task → ℕ
most_bytes (File command) = MOST_BYTES
most_bytes Check = MOST_DRAWING_BYTES
most_bytes (Orient from to) = MOST_BYTES
most_bytes Session = MOST_BYTES
most_bytes (Gen r) = 0
most_bytes (Bench r form) = 0

-- at most so many bytes were taken
pub record TakesAtMost (most : ℕ) (old new : Option (List ℕ)) : Type 0 where
  pub taken : List ℕ
  pub consumed : Consumes old new taken
  pub few : length taken ≤ most

-- what a run takes at most for the task of its words: the limit and one read
abbrev pub TakesFew : List (List ℕ) → Option (List ℕ) → Option (List ℕ) → Type 0
TakesFew words old new = (task : Task) → IsTask words task → TakesAtMost (most_bytes task + 4096) old new

-- more bytes than the limit were taken, by less than one read
pub record TakesPastLimit (limit : ℕ) (old new : Option (List ℕ)) : Type 0 where
  pub taken : List ℕ
  pub consumed : Consumes old new taken
  pub over : limit < length taken
  pub most : length taken ≤ limit + 4096

-- Reads gave their bytes, at most as many as the limit, and counted no fault. Then one failed, took nothing and counted a fault.
-- This speaks of what the source tells. That nothing is read behind the failed read is said by `Reads` of the source itself, where
-- it is read.
abbrev pub IsFailedRead : ℕ → SourceState → SourceState → Type 0
IsFailedRead limit old new = Reads {S = SourceState} {A = Unit {0}} (λ s. s) old new limit (λ _ _. Unit {0}) (Err Failed)

-- what a refusal leaves of the source
abbrev pub Leaves : Refusal → Option (List ℕ) → Option (List ℕ) → Type 0
Leaves Words old new = Unit {0}
Leaves TooManyBytes old new = TakesPastLimit MOST_BYTES old new
Leaves TooLongDrawing old new = TakesPastLimit MOST_DRAWING_BYTES old new
Leaves _ old new = IsAtEnd new

-- what a task with an output has read: a file to its end; for a generated graph nothing
abbrev pub HasReadInput : Task → SourceState → SourceState → Type 0
HasReadInput (File command) old new = IsAtEnd new.left
HasReadInput Check old new = IsAtEnd new.left
HasReadInput (Orient from to) old new = IsAtEnd new.left
HasReadInput Session old new = IsAtEnd new.left
HasReadInput (Gen r) old new = new ≡ old
HasReadInput (Bench r form) old new = new ≡ old

-- the bytes have the graph, and were read to their end
pub record IsReadAs (old new : SourceState) (g : InputGraph) : Type 0 where
  pub bytes : List ℕ
  pub told : IfSome old.left (λ left. left ≡ bytes)
  pub graph : IsGraphWithin bytes (Ok g)
  pub end : IsAtEnd new.left

-- the bytes have no graph
pub record HasNoGraph (old new : SourceState) (refusal : Refusal) : Type 0 where
  pub bytes : List ℕ
  pub told : IfSome old.left (λ left. left ≡ bytes)
  pub refused : IsGraphWithin bytes (Err refusal)
  pub leaves : Leaves refusal old.left new.left

-- what the bytes that the source had left were found to be
abbrev pub Finds : SourceState → SourceState → Result InputGraph Stop → Type 0
Finds old new (Ok g) = IsReadAs old new g
Finds old new (Err (Refused refusal)) = HasNoGraph old new refusal
Finds old new (Err ReadFault) = IsFailedRead MOST_BYTES old new
Finds old new (Err WriteFault) = ⊥
Finds old new (Err NoMemory) = Unit {0}

-- the answer to the bytes is an output, and the source was read as the task asks
pub record IsReady (words : List (List ℕ)) (old new : SourceState) (text : List ℕ) : Type 0 where
  pub bytes : List ℕ
  pub told : IfSome old.left (λ left. left ≡ bytes)
  pub answer : IsAnswer words bytes (Ok text)
  pub task : Task
  pub asked : IsTask words task
  pub read : HasReadInput task old new

-- the answer to the bytes is a refusal
pub record IsRefusedWith (words : List (List ℕ)) (old new : SourceState) (refusal : Refusal) : Type 0 where
  pub bytes : List ℕ
  pub told : IfSome old.left (λ left. left ≡ bytes)
  pub answer : IsAnswer words bytes (Err refusal)
  pub leaves : Leaves refusal old.left new.left

-- the words ask for a task on a file, and a read failed, the last one
pub record IsUnread (words : List (List ℕ)) (old new : SourceState) : Type 0 where
  pub task : Task
  pub asked : IsTask words task
  pub on_file : IsFileless task → ⊥
  pub read : IsFailedRead (most_bytes task) old new
  pub rose : Rose old.faults new.faults

-- what was found out before anything was written
abbrev pub Decides : List (List ℕ) → SourceState → SourceState → Result (List ℕ) Stop → Type 0
Decides words old new (Ok text) = IsReady words old new text
Decides words old new (Err (Refused refusal)) = IsRefusedWith words old new refusal
Decides words old new (Err ReadFault) = IsUnread words old new
Decides words old new (Err WriteFault) = ⊥
Decides words old new (Err NoMemory) = Unit {0}

-- the output was written whole and flushed
pub record IsDone (words : List (List ℕ)) (src src' : SourceState) (out out' : SinkState) : Type 0 where
  pub text : List ℕ
  pub ready : IsReady words src src' text
  pub gains : Gains out out' text
  pub flushed : IsTrue out'.is_flushed

-- a front of the output was written, and a fault of the output was counted
pub record IsCutShort (words : List (List ℕ)) (src src' : SourceState) (out out' : SinkState) : Type 0 where
  pub text : List ℕ
  pub ready : IsReady words src src' text
  pub front : GainsFront out out' text
  pub rose : Rose out.faults out'.faults

-- the refusal that the status and the line name
pub record IsTold (words : List (List ℕ)) (src src' : SourceState) (diag diag' : SinkState) (s : Status) : Type 0 where
  pub refusal : Refusal
  pub refused : IsRefusedWith words src src' refusal
  pub status : s ≡ status_of refusal
  pub line : Tells diag diag' (line_of refusal)

-- What a run has done, and its status: the output is written, or a refusal is told, or a read failed, or the output is cut short,
-- or memory ran out. Nothing is told where the output is written, and nothing is written where there is none.
pub data EndsBy (words : List (List ℕ)) (src src' : SourceState) (out out' diag diag' : SinkState) (s : Status) : Type 0 where
  is_done : s ≡ status.Done → diag' ≡ diag → IsDone words src src' out out' → EndsBy words src src' out out' diag diag' s
  is_refused : out' ≡ out → IsTold words src src' diag diag' s → EndsBy words src src' out out' diag diag' s
  is_unread : s ≡ status.ReadFault → out' ≡ out → IsUnread words src src' → Tells diag diag' (stop_line ReadFault) → EndsBy words src src' out out' diag diag' s
  is_cut : s ≡ status.WriteFault → IsCutShort words src src' out out' → Tells diag diag' (stop_line WriteFault) → EndsBy words src src' out out' diag diag' s
  no_memory : s ≡ status.NoMemory → out' ≡ out → Tells diag diag' (stop_line NoMemory) → EndsBy words src src' out out' diag diag' s
