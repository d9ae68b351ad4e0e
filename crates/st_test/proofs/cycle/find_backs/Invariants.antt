use Rattle.st_test.specs.BackTables.{AreBacks}
use Rattle.st_test.proofs.cycle.find_backs.Given as goal

abbrev pub invariant-loop-e : goal.invariant-loop-e
invariant-loop-e l = AreBacks l.n l.ends l.left l.e l.back.items
