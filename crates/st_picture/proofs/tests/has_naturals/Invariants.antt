use Rattle.std.proofs.Common.{◌<◌, ℕ, slice_index_or, pos, ◌≤ℤ◌}
use Rattle.st_picture.proofs.tests.has_naturals.Given as goal

abbrev pub invariant-loop-i : goal.invariant-loop-i
invariant-loop-i l = (k : ℕ) → k < l.i → pos 0 ≤ℤ slice_index_or l.table k (pos 0)
