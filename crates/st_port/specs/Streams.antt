-- What a source and a sink tell, and what a call does to it.
--   SourceState     the bytes that are left, where the source tells them, and its faults
--   SinkState       the bytes taken and their number, where the sink tells them, whether it is flushed, its faults
--   Gains           a piece was appended
--   GainsFront      a front of a piece was appended
--   TakesSome       a write took at least one byte of a piece that isn't empty
use Rattle.std.specs.Prelude.{◌≡◌, ℕ, ◌+◌, ◌-◌, ◌^◌, ◌<◌, ◌≤◌, Bool, List, ◌++◌, length, Some, None, IfSome, refl}
use Rattle.std.specs.declared.option.Option.{Option}
use Rattle.std.specs.Option.{option_map}
use Rattle.std.specs.Io.KnownBytes.{Appends}
use Rattle.st_port.specs.Faults.{Faults}

pub record SourceState : Type 0 where
  pub left : Option (List ℕ)
  pub faults : Faults

pub record SinkState : Type 0 where
  pub taken : Option (List ℕ)
  pub number : Option ℕ
  -- all that was taken is on its way
  pub is_flushed : Bool
  pub faults : Faults

-- the number of bytes taken, where it is told, grows by k, below the end of its type
abbrev pub GrowsBy : Option ℕ → Option ℕ → ℕ → Type 0
GrowsBy old new k = IfSome old (λ n. n + k < 2 ^ 64 - 1 → new ≡ Some (n + k))

-- the piece was appended, and nothing else
pub record Gains (old new : SinkState) (piece : List ℕ) : Type 0 where
  pub bytes : Appends old.taken new.taken piece
  pub number : GrowsBy old.number new.number (length piece)

-- a front of the piece was appended, and nothing else
pub record GainsFront (old new : SinkState) (piece : List ℕ) : Type 0 where
  pub front : List ℕ
  pub rest : List ℕ
  pub parts : piece ≡ front ++ rest
  pub gains : Gains old new front

-- n is at most the length of the piece, and 0 only for the empty piece
pub record TakesSome (n : ℕ) (piece : List ℕ) : Type 0 where
  pub most : n ≤ length piece
  pub some : 0 < length piece → 0 < n

-- where bytes are told, so is their number
abbrev pub AreCounted : Option (List ℕ) → Option ℕ → Type 0
AreCounted bytes number = IfSome bytes (λ xs. number ≡ Some (length xs))

abbrev pub TellsNumber : SinkState → Type 0
TellsNumber s = AreCounted s.taken s.number

pub tells_length : (bytes : Option (List ℕ)) → AreCounted bytes (option_map length bytes)
tells_length None = tt
tells_length (Some xs) = refl
