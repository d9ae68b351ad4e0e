use Rattle.draw_align.specs.Built.{AreArcWeights}
use Rattle.draw_align.proofs.alignment.weights_of.Given as goal

abbrev pub invariant-loop-a : goal.invariant-loop-a
invariant-loop-a l = AreArcWeights l.sides l.a l.weights
