use Rattle.std.proofs.Common.{◌≤◌}
use Rattle.st_sides.specs.Sides.{edge_count, face_left}
use Rattle.st_picture.specs.Bars.{number_at}
use Rattle.st_picture.proofs.Public.{Has}
use Rattle.draw_vis.proofs.visible.left_columns.Given as goal

abbrev pub invariant-loop-e : goal.invariant-loop-e
invariant-loop-e l = record {
  in_range : l.e ≤ edge_count l.sides;
  has : Has l.lines l.e (λ e. number_at l.grid.columns (face_left l.sides e));
}
