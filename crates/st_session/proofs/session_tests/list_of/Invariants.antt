use Rattle.std.proofs.Common.{ℕ, ◌<◌, length, get_or}
use Rattle.st_session.proofs.session_tests.list_of.Given as goal

abbrev pub invariant-loop-e : goal.invariant-loop-e
invariant-loop-e l = (k : ℕ) → k < length l.list → get_or l.list k 0 < l.edges
