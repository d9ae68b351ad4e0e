use Rattle.draw_align.specs.Built.{IsBuilt}
use Rattle.draw_align.proofs.alignment.build.Given as goal

abbrev pub invariant-loop-a : goal.invariant-loop-a
invariant-loop-a l = IsBuilt l.sides l.homes l.n l.a l.graph
