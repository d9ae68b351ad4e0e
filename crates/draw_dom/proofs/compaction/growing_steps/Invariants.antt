use Rattle.std.proofs.Common.{◌≡◌, ℕ, ◌-◌, ◌<◌, ◌≤◌, get_or, vec_len}
use Rattle.draw_dom.specs.Compact.{steps}
use Rattle.draw_dom.proofs.compaction.growing_steps.Given as goal

abbrev pub invariant-loop-k : goal.invariant-loop-k
invariant-loop-k l = record {
  len : vec_len l.places ≡ l.k;
  items : (j : ℕ) → j < l.k → get_or l.places.items j 0 ≡ steps (λ i. get_or l.along i 0) j;
  place : l.place ≡ steps (λ i. get_or l.along i 0) (l.k - 1);
  bound : l.place ≤ l.k - 1;
}
