use Rattle.st_number.specs.Spread.{AreSpreadBy}
use Rattle.st_number.proofs.spreading.rows_of.Given as goal

abbrev pub invariant-loop-e : goal.invariant-loop-e
invariant-loop-e l = AreSpreadBy l.lengths l.flags l.e l.list
