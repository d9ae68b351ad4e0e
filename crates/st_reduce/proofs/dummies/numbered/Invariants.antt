use Rattle.std.proofs.Common.{◌≡◌, ◌+◌, ◌≤◌, length}
use Rattle.st_sides.specs.Sides.{edge_count}
use Rattle.st_reduce.specs.Dummies.{AreDummiesTo}
use Rattle.st_reduce.specs.Marks.{dummy_numbers}
use Rattle.st_reduce.proofs.dummies.numbered.Given as goal

abbrev pub invariant-loop-e : goal.invariant-loop-e
invariant-loop-e l = record {
  in_range : l.e ≤ edge_count l.sides;
  size : length l.of_edges ≡ l.e;
  few : l.vertices ≤ l.sides.vertices + l.e;
  are : AreDummiesTo l.sides l.e (dummy_numbers l.of_edges) l.vertices;
}
