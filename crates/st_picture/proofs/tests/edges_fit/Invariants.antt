use Rattle.std.proofs.Common.{◌<◌, ◌≤◌, ℕ}
use Rattle.st_sides.specs.Sides.{edge_tail, edge_head, face_left, face_right}
use Rattle.st_picture.specs.Bars.{number_at}
use Rattle.st_picture.proofs.tests.edges_fit.Given as goal

abbrev pub invariant-loop-e : goal.invariant-loop-e
invariant-loop-e l = record {
  up : (k : ℕ) → k < l.e → number_at l.heights (edge_tail l.sides k) < number_at l.heights (edge_head l.sides k);
  from : (k : ℕ) → k < l.e → number_at l.columns (face_left l.sides k) ≤ number_at l.lines k;
  to : (k : ℕ) → k < l.e → number_at l.lines k < number_at l.columns (face_right l.sides k);
}
