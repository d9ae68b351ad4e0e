use Rattle.eps_check.specs.Names.{AreDistinct}
use Rattle.eps_check.proofs.names.are_distinct.Given as goal

abbrev pub invariant-loop-k : goal.invariant-loop-k
invariant-loop-k l = AreDistinct l.vertices l.k
