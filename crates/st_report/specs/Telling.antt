-- What a diagnostic sink has got.
--   Tells old new line    the line was written and flushed, or a front of it where a fault was counted
use Rattle.std.specs.Prelude.{ℕ, ◌⊎◌, List, IsTrue}
use Rattle.st_port.specs.Faults.{Rose}
use Rattle.st_port.specs.Streams.{SinkState, Gains, GainsFront}

-- the line was written and flushed, or a front of it where a fault was counted
abbrev pub Tells : SinkState → SinkState → List ℕ → Type 0
Tells old new line = (Gains old new line × IsTrue new.is_flushed) ⊎ (GainsFront old new line × Rose old.faults new.faults)
