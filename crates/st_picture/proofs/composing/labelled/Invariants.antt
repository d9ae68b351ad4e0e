use Rattle.std.proofs.Common.{ℕ, ◌≤◌, length}
use Rattle.st_picture.proofs.composing.labelled.Given as goal

abbrev pub invariant-loop-v : goal.invariant-loop-v
invariant-loop-v l = record {
  in_range : l.v ≤ length l.names.label;
  count : l.count ≤ l.v;
}
