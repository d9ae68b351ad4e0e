use Rattle.std.proofs.Common.{◌+◌, ◌-◌, length}
use Rattle.st_test.specs.BackTables.{IsTracing}
use Rattle.st_test.proofs.cycle.go_back.Given as goal

abbrev pub invariant-loop-passed : goal.invariant-loop-passed
invariant-loop-passed l = IsTracing l.n l.ends l.left l.back l.start l.passed.items l.place.items l.v

abbrev pub decreases-loop-passed : goal.decreases-loop-passed
decreases-loop-passed l = l.n + 1 - length l.passed.items
