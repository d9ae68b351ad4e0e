use Rattle.st_number.specs.Parallel.{IsMarking, noted_at}
use Rattle.st_number.proofs.multiple.mark_all.Given as goal

abbrev pub invariant-loop-e : goal.invariant-loop-e
invariant-loop-e l = IsMarking l.map.graph (noted_at l.noted) l.flags l.e
