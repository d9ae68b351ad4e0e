use Rattle.std.proofs.Common.{◌≡◌, ◌+◌, ◌-◌, ◌≤◌, ◌++◌, false, ℕ, List, length, drop}
use Rattle.gml_core.specs.Pieces.{after_gap}
use Rattle.gml_core.proofs.within.white.Given as goal

abbrev pub invariant-loop-n : goal.invariant-loop-n
invariant-loop-n l = (l.n ≤ length l.text) × ((at : ℕ) (c : List ℕ) → after_gap false at (l.text ++ c) ≡ after_gap false (at + l.n) (drop l.n l.text ++ c))

abbrev pub decreases-loop-n : goal.decreases-loop-n
decreases-loop-n l = length l.text - l.n
