-- What a source and a sink tell that never fail.
--   sure_state xs    a source that has these bytes left
--   told n           the number of bytes taken, where the count of 64 bits has not reached its greatest number
--   count_state n    a sink that has counted n bytes, and keeps none
use Rattle.std.specs.Prelude.{ℕ, ◌-◌, ◌^◌, ◌==◌, List, true, Some, None, if◌then◌else◌}
use Rattle.std.specs.declared.option.Option.{Option}
use Rattle.st_port.specs.Faults.{no_fault}
use Rattle.st_port.specs.Streams.{SourceState, SinkState}

abbrev pub sure_state : List ℕ → SourceState
sure_state xs = record { left = Some xs; faults = no_fault }

-- a count that stands at its greatest number tells nothing
abbrev pub told : ℕ → Option ℕ
told n = if n == 2 ^ 64 - 1 then None else Some n

-- what is taken is on its way at once
abbrev pub count_state : ℕ → SinkState
count_state n = record { taken = None; number = told n; is_flushed = true; faults = no_fault }
