use Rattle.std.proofs.Common.{◌≡◌, ◌+◌, ◌-◌, ◌≤◌, length}
use Rattle.st_test.specs.Cycle.{back_list}
use Rattle.st_test.specs.BackTables.{looped}
use Rattle.st_test.proofs.cycle.list_loop.Given as goal

abbrev pub invariant-loop-k : goal.invariant-loop-k
invariant-loop-k l = record {
  above : l.least ≤ l.k;
  below : l.k ≤ l.least + (length l.passed - l.first);
  list : l.es ≡ back_list (looped l.passed l.back l.first) l.k (l.least + (length l.passed - l.first) - l.k);
}

abbrev pub decreases-loop-k : goal.decreases-loop-k
decreases-loop-k l = l.k
