use Rattle.std.proofs.Common.{◌≡◌, ℕ, ◌<◌, false}
use Rattle.st_test.specs.BackTables.{is_left}
use Rattle.st_test.proofs.cycle.find_first.Given as goal

abbrev pub invariant-loop-v : goal.invariant-loop-v
invariant-loop-v l = (u : ℕ) → u < l.v → is_left l.left u ≡ false
