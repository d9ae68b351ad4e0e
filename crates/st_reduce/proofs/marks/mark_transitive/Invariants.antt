use Rattle.st_reduce.proofs.MarkLemmas.{AreBelow}
use Rattle.st_reduce.proofs.marks.mark_transitive.Given as goal

abbrev pub invariant-loop-f : goal.invariant-loop-f
invariant-loop-f l = AreBelow l.sides l.f l.marks
