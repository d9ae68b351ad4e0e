use Rattle.std.proofs.Common.{◌<◌, ◌≤◌, ◌-◌}
use Rattle.draw_align.specs.Faults.{AreApart}
use Rattle.draw_align.proofs.apart.count_apart.Given as goal

abbrev pub invariant-loop-apart : goal.invariant-loop-apart
invariant-loop-apart l = record {
  in_order : l.apart < l.crossed;
  within : l.crossed ≤ l.noted.count;
  apart : AreApart l.sides l.paths l.apart;
  crossed : AreApart l.sides l.paths l.crossed → ⊥;
}

abbrev pub decreases-loop-apart : goal.decreases-loop-apart
decreases-loop-apart l = l.crossed - l.apart
