use Rattle.st_map.specs.Tables.{AreDegrees}
use Rattle.st_map.proofs.orders.degrees.Given as goal

abbrev pub invariant-loop-e : goal.invariant-loop-e
invariant-loop-e l = AreDegrees l.n l.ends l.e l.degree.items
