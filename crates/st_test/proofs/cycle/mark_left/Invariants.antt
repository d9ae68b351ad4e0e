use Rattle.st_test.specs.BackTables.{AreLeftAt}
use Rattle.st_test.proofs.cycle.mark_left.Given as goal

abbrev pub invariant-loop-k : goal.invariant-loop-k
invariant-loop-k l = AreLeftAt l.n l.order l.left.items l.k
