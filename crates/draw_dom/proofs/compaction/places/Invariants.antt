use Rattle.std.proofs.Common.{◌≡◌, ℕ, ◌<◌, get_or, vec_len}
use Rattle.draw_dom.specs.Compact.{steps}
use Rattle.draw_dom.specs.Points.{AreVerticesOf}
use Rattle.draw_dom.proofs.compaction.places.Given as goal

abbrev pub invariant-loop-number : goal.invariant-loop-number
invariant-loop-number l = record {
  len : vec_len l.found ≡ l.number-index;
  items : (at : ℕ → ℕ) → AreVerticesOf l.numbers at → (v : ℕ) → v < l.number-index → get_or l.found.items v 0 ≡ steps (λ k. get_or l.others (at k) 0) (get_or l.numbers v 0);
}
