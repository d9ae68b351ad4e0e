use Rattle.draw_align.specs.Built.{AreLines}
use Rattle.draw_align.proofs.picture.lines_of.Given as goal

abbrev pub invariant-loop-e : goal.invariant-loop-e
invariant-loop-e l = AreLines l.sides l.homes l.columns l.e l.lines
