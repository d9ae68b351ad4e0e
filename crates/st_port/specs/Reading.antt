-- What is read of a source up to a limit.
--   Takes old new taken      the reads of a call gave these bytes, and none of them failed
--   Ends                     how a call stops: at the end, at its first failed read, over the limit or for want of memory
--   Reads                    all that a call reads, and what it makes of the bytes
--   ReadsWhole               the same of a call that answers the bytes, without the faults
use Rattle.std.specs.Prelude.{◌≡◌, ℕ, ◌+◌, ◌<◌, ◌≤◌, List, length, Result, Ok, Err}
use Rattle.std.specs.declared.option.Option.{Option}
use Rattle.std.specs.Io.KnownBytes.{Consumes, Keeps, IsAtEnd}
use Rattle.st_port.specs.Faults.{Rose}
use Rattle.st_port.specs.Streams.{SourceState}
use Rattle.st_port.specs.declared.port.ReadEnd.{ReadEnd}
use Rattle.st_port.specs.declared.port.ReadEnd.TheVariants.{Failed, TooLong, NoMemory}

-- the bytes were taken in order, and no read failed meanwhile
pub record Takes (old new : SourceState) (taken : List ℕ) : Type 0 where
  pub consumed : Consumes old.left new.left taken
  pub quiet : new.faults ≡ old.faults

-- How a call stops, of which `near` is the source behind the last read that did not fail. After a failed read nothing more is
-- read: it is the only one behind `near`, and it takes nothing.
abbrev pub Ends : {S A : Type 0} → (S → SourceState) → S → S → ℕ → (A → List ℕ → Type 0) → Result A ReadEnd → List ℕ → Type 0
Ends state near new limit made (Ok v) taken = (new ≡ near) × IsAtEnd (state new).left × made v taken × (length taken ≤ limit)
Ends state near new limit made (Err Failed) taken =
    Keeps (state near).left (state new).left × Rose (state near).faults (state new).faults × (length taken ≤ limit)
Ends state near new limit made (Err TooLong) taken = (new ≡ near) × (limit < length taken) × (length taken ≤ limit + 4096)
Ends state near new limit made (Err NoMemory) taken = (new ≡ near) × (length taken ≤ limit + 4096)

-- All that a call reads of a source: `made v taken` says what it makes of the bytes taken.
pub record Reads {S A : Type 0} (state : S → SourceState) (old new : S) (limit : ℕ) (made : A → List ℕ → Type 0) (result : Result A ReadEnd) : Type 0 where
  pub taken : List ℕ
  pub near : S
  pub takes : Takes (state old) (state near) taken
  pub ends : Ends state near new limit made result taken

-- how the bytes that were taken are answered: more than the limit is too long
abbrev pub Answers : ℕ → Result (List ℕ) ReadEnd → List ℕ → Type 0
Answers limit (Ok text) taken = (text ≡ taken) × (length taken ≤ limit)
Answers limit (Err Failed) taken = length taken ≤ limit
Answers limit (Err TooLong) taken = (limit < length taken) × (length taken ≤ limit + 4096)
Answers limit (Err NoMemory) taken = length taken ≤ limit

-- some bytes that were left were taken, and are answered
pub record ReadsWhole (old new : Option (List ℕ)) (limit : ℕ) (result : Result (List ℕ) ReadEnd) : Type 0 where
  pub taken : List ℕ
  pub consumed : Consumes old new taken
  pub answered : Answers limit result taken
