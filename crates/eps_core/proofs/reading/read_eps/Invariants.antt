use Rattle.std.proofs.Common.{length}
use Rattle.eps_core.specs.Reading.{HasRead}
use Rattle.eps_core.proofs.reading.read_eps.Given as goal

abbrev pub invariant-loop-item : goal.invariant-loop-item
invariant-loop-item l = HasRead l.bytes l.picture l.frame l.line l.rest

abbrev pub decreases-loop-item : goal.decreases-loop-item
decreases-loop-item l = length l.rest
