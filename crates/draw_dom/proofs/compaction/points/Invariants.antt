use Rattle.std.proofs.Common.{◌≡◌, ℕ, ◌<◌, get_or, slice_get, Some, vec_len}
use Rattle.st_picture.specs.Items.{grid_point}
use Rattle.draw_dom.proofs.compaction.points.Given as goal

abbrev pub invariant-loop-v : goal.invariant-loop-v
invariant-loop-v l = record {
  len : vec_len l.points ≡ l.v;
  items : (u : ℕ) → u < l.v → slice_get l.points.items u ≡ Some (grid_point (get_or l.columns.items u 0) (get_or l.rows.items u 0));
}
