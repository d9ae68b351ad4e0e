use Rattle.draw_align.specs.Homes.{IsHoming}
use Rattle.draw_align.proofs.homes.homes_of.Given as goal

abbrev pub invariant-loop-e : goal.invariant-loop-e
invariant-loop-e l = IsHoming l.sides l.paths l.e l.found.table l.found.count
