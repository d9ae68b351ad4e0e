use Rattle.std.proofs.Common.{ℕ, ◌<◌, length}
use Rattle.st_shape.specs.Clean.{FaultyPair}
use Rattle.st_shape.proofs.search.first_pair.Given as goal

abbrev pub invariant-loop-i : goal.invariant-loop-i
invariant-loop-i l = (k m : ℕ) → k < l.i → k < m → m < length l.items → ¬ FaultyPair l.items k m

abbrev pub invariant-loop-j : goal.invariant-loop-j
invariant-loop-j l = record {
  before : (k m : ℕ) → k < l.i → k < m → m < length l.items → ¬ FaultyPair l.items k m;
  here : (m : ℕ) → l.i < m → m < l.j → ¬ FaultyPair l.items l.i m;
}
