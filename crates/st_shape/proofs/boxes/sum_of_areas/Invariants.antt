use Rattle.std.proofs.Common.{◌≡◌, ◌*◌, ◌≤◌, take, sum_by}
use Rattle.st_shape.specs.Boxes.{area_of}
use Rattle.st_shape.proofs.boxes.sum_of_areas.Given as goal

abbrev pub invariant-loop-i : goal.invariant-loop-i
invariant-loop-i l = record {
  value : l.sum ≡ sum_by area_of (take l.i l.items);
  most : l.sum ≤ l.i * 2500000000000000;
}
