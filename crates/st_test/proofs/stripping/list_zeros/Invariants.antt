use Rattle.st_test.specs.StripState.{AreZeros}
use Rattle.st_test.proofs.stripping.list_zeros.Given as goal

abbrev pub invariant-loop-v : goal.invariant-loop-v
invariant-loop-v l = AreZeros l.v l.degree l.order.items
