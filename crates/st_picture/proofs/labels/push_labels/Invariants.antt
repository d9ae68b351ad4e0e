use Rattle.std.proofs.Common.{◌≡◌, ◌++◌, ◌≤◌, length}
use Rattle.st_picture.specs.Items.{labels, place_at}
use Rattle.st_picture.proofs.labels.push_labels.Given as goal

abbrev pub invariant-loop-v : goal.invariant-loop-v
invariant-loop-v l = record {
  in_range : l.v ≤ length l.names.label;
  same : l.picture ≡ record l.fn.picture { items = l.fn.picture.items ++ labels l.names (place_at l.fn.picture.items) l.v };
}
