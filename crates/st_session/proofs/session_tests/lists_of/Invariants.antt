use Rattle.std.proofs.Common.{ℕ, ◌<◌, length, get_or}
use Rattle.st_map.specs.Orders.{order_at}
use Rattle.st_session.proofs.session_tests.lists_of.Given as goal

abbrev pub invariant-loop-row : goal.invariant-loop-row
invariant-loop-row l = (v : ℕ) → v < length l.lists → (k : ℕ) → k < length (order_at l.lists v) → get_or (order_at l.lists v) k 0 < l.edges
