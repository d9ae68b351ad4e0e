use Rattle.std.proofs.Common.{ℕ, ◌<◌, get_or}
use Rattle.draw_align.specs.Listed.{IsShared, path_at}
use Rattle.draw_align.proofs.steps.first_shared.Given as goal

abbrev pub invariant-loop-k : goal.invariant-loop-k
invariant-loop-k l = (i : ℕ) → i < l.k → IsShared l.paths l.p (get_or (path_at l.paths l.p) i 0) → ⊥
