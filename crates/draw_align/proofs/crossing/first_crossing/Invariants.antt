use Rattle.std.proofs.Common.{ℕ, suc, ◌<◌, ◌≤◌, get_or}
use Rattle.st_sides.specs.Sides.{edge_head}
use Rattle.draw_align.specs.Listed.{path_at, Cross}
use Rattle.draw_align.proofs.crossing.first_crossing.Given as goal

abbrev pub invariant-loop-k : goal.invariant-loop-k
invariant-loop-k l = record {
  low : 1 ≤ l.k;
  none : (i r : ℕ) → suc i < l.k → r < l.p → Cross l.sides (path_at l.paths l.p) (path_at l.paths r) (edge_head l.sides (get_or (path_at l.paths l.p) i 0)) → ⊥;
}
