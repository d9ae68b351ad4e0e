use Rattle.std.proofs.Common.{ℕ, suc, ◌≡◌, ◌<◌, ◌≤◌, get_or}
use Rattle.st_sides.specs.Sides.{edge_tail, edge_head}
use Rattle.draw_align.specs.Listed.{path_at}
use Rattle.draw_align.proofs.walking.is_path.Given as goal

abbrev pub invariant-loop-k : goal.invariant-loop-k
invariant-loop-k l = record {
  low : 1 ≤ l.k;
  joined : (i : ℕ) → suc i < l.k → edge_tail l.sides (get_or (path_at l.paths l.p) (suc i) 0) ≡ edge_head l.sides (get_or (path_at l.paths l.p) i 0);
}
