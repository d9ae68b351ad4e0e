use Rattle.std.proofs.Common.{ℕ, ◌<◌}
use Rattle.draw_align.specs.Faults.{AreApartAt}
use Rattle.draw_align.proofs.apart.are_apart.Given as goal

abbrev pub invariant-loop-v : goal.invariant-loop-v
invariant-loop-v l = (u : ℕ) → u < l.v → AreApartAt l.sides l.paths l.n u
