use Rattle.std.proofs.Common.{◌≡◌, ℕ, ◌-◌, ◌<◌, ◌≤◌, length}
use Rattle.st_ids.specs.EdgeNumbers.{numbers}
use Rattle.st_map.specs.Embedded.{darts}
use Rattle.st_map.specs.Orbits.{iterate}
use Rattle.st_sides.specs.Rounds.{IsRun, round}
use Rattle.st_sides.specs.Stretches.{forward}
use Rattle.st_sides.proofs.runs.run.Given as goal

abbrev pub invariant-round : goal.invariant-round
invariant-round l = record {
  some : 0 < length l.list.items;
  far : (n : ℕ) → IsRun (round l.map.graph l.face) l.out l.start.0 n → length l.list.items ≤ n;
  list : numbers l.list.items ≡ forward (length l.list.items) (round l.map.graph l.face) l.start.0;
  end : l.end.0 ≡ iterate (length l.list.items) (round l.map.graph l.face) l.start.0;
  there : l.end.0 < darts l.map.graph;
}

abbrev pub decreases-round : goal.decreases-round
decreases-round l = darts l.map.graph - length l.list.items
