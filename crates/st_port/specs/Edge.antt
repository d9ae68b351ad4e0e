-- What a writer of the system tells as a sink.
use Rattle.std.specs.Prelude.{ℕ, Bool, List, length}
use Rattle.std.specs.declared.option.Option.{Option}
use Rattle.std.specs.Option.{option_map}
use Rattle.st_port.specs.Faults.{counter}
use Rattle.st_port.specs.Streams.{SinkState}

-- the bytes that the writer holds, where it tells them, and their number
abbrev pub writer_state : Option (List ℕ) → Bool → ℕ → SinkState
writer_state contents flushed faults = record { taken = contents; number = option_map length contents; is_flushed = flushed; faults = counter faults }
