use Rattle.std.proofs.Common.{◌≡◌, ℕ, ◌<◌, ◌≤◌, length, slice_get}
use Rattle.draw_dom.proofs.drawing.first_points.Given as goal

abbrev pub invariant-loop-v : goal.invariant-loop-v
invariant-loop-v l = record {
  in_range : l.v ≤ l.n;
  size : length l.first ≡ l.v;
  each : (w : ℕ) → w < l.v → slice_get l.first w ≡ slice_get l.points w;
}
