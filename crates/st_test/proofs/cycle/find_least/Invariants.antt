use Rattle.std.proofs.Common.{ℕ, ◌<◌, ◌≤◌, length, get_or}
use Rattle.st_test.proofs.cycle.find_least.Given as goal

abbrev pub invariant-loop-k : goal.invariant-loop-k
invariant-loop-k l = record {
  after : l.from ≤ l.least;
  there : l.least < length l.passed;
  least : (j : ℕ) → l.from ≤ j → j < l.k → get_or l.passed l.least 0 ≤ get_or l.passed j 0;
}
