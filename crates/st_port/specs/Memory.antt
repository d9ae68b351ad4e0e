-- What contracts see of sources and sinks in memory.
--   Feed, Tank      a source and a sink in memory
--   Vessel          a sink in memory that grows
--   portion_of      how many bytes move in a call
--   Fails           the next call is one of those that fail
use Rattle.std.specs.Prelude.{◌≡◌, ℕ, ◌+◌, ◌^◌, ◌<◌, List, Contains, ◌⊎◌, length, Bool, min, ◌==◌, if◌then◌else◌, Some}
use Rattle.st_port.specs.Faults.{counter}
use Rattle.st_port.specs.Streams.{SourceState, SinkState}

pub record Feed : Type 0 where
  pub left : List ℕ
  pub per_call : ℕ
  -- the numbers of the calls that fail
  pub fails : List ℕ
  -- the number of calls so far
  pub calls : ℕ
  pub faults : ℕ

pub record Tank : Type 0 where
  pub taken : List ℕ
  pub room : ℕ
  pub per_call : ℕ
  -- the numbers of the writes that fail
  pub fails : List ℕ
  -- the number of writes so far
  pub calls : ℕ
  pub faults : ℕ
  pub is_flushed : Bool

pub record Vessel : Type 0 where
  pub taken : List ℕ
  pub faults : ℕ
  pub is_flushed : Bool

abbrev pub feed_state : Feed → SourceState
feed_state s = record { left = Some s.left; faults = counter s.faults }

abbrev pub tank_state : Tank → SinkState
tank_state s = record { taken = Some s.taken; number = Some (length s.taken); is_flushed = s.is_flushed; faults = counter s.faults }

abbrev pub vessel_state : Vessel → SinkState
vessel_state s = record { taken = Some s.taken; number = Some (length s.taken); is_flushed = s.is_flushed; faults = counter s.faults }

-- of so many bytes, those that move in a call: all of them, or at most per_call
abbrev pub portion_of : ℕ → ℕ → ℕ
portion_of per_call most = if per_call == 0 then most else min most per_call

-- the call after so many has a number, and it is one that fails
abbrev pub Fails : List ℕ → ℕ → Type 0
Fails fails calls = (calls + 1 < 2 ^ 64) × Contains fails (calls + 1)

-- the write's number is one that fails, or there is no room for a piece that isn't empty
abbrev pub IsRefused : Tank → List ℕ → Type 0
IsRefused tank piece = Fails tank.fails tank.calls ⊎ ((tank.room ≡ 0) × (0 < length piece))
