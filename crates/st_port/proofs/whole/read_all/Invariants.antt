use Rattle.std.proofs.Common.{length, ◌-◌, ◌≤◌}
use Rattle.st_port.specs.Reading.{Takes}
use Rattle.st_port.proofs.whole.read_all.Given as goal

abbrev pub invariant-loop-piece : goal.invariant-loop-piece
invariant-loop-piece g l = (length l.text ≤ l.limit)
    × Takes (g.S.Source.state l.initial.src) (g.S.Source.state l.src) l.text

abbrev pub decreases-loop-piece : goal.decreases-loop-piece
decreases-loop-piece g l = l.limit - length l.text
