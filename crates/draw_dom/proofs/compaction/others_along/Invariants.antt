use Rattle.std.proofs.Common.{◌≡◌, ℕ, ◌<◌, get_or, length, vec_len}
use Rattle.draw_dom.proofs.compaction.others_along.Given as goal

abbrev pub invariant-loop-v : goal.invariant-loop-v
invariant-loop-v l = record {
  len : vec_len l.along ≡ length l.numbers;
  written : (u : ℕ) → u < l.v → get_or l.along.items (get_or l.numbers u 0) 0 ≡ get_or l.others u 0;
}
