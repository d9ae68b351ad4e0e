use Rattle.std.proofs.Common.{◌≡◌, ◌≤◌}
use Rattle.st_reduce.specs.Marks.{marked_below}
use Rattle.st_reduce.proofs.marks.count_marks.Given as goal

abbrev pub invariant-loop-e : goal.invariant-loop-e
invariant-loop-e l = (l.count ≡ marked_below l.marks l.e) × (l.count ≤ l.e)
