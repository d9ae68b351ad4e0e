use Rattle.std.proofs.Common.{length, take, ◌-◌, ◌≤◌}
use Rattle.st_port.specs.Faults.{GoesOn}
use Rattle.st_port.specs.Streams.{Gains}
use Rattle.st_port.proofs.whole.write_all.Given as goal

abbrev pub invariant-loop-at : goal.invariant-loop-at
invariant-loop-at g l = (l.at ≤ length l.piece)
    × Gains (g.K.Sink.state l.initial.sink) (g.K.Sink.state l.sink) (take l.at l.piece)
    × GoesOn (g.K.Sink.state l.initial.sink).faults (g.K.Sink.state l.sink).faults

abbrev pub decreases-loop-at : goal.decreases-loop-at
decreases-loop-at g l = length l.piece - l.at
