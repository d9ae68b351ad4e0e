use Rattle.st_number.specs.Filling.{IsFilling}
use Rattle.st_sides.specs.Sweep.{node_numbers}
use Rattle.st_number.proofs.dual_pass.fill.Given as goal

abbrev pub invariant-loop-k : goal.invariant-loop-k
invariant-loop-k l = IsFilling l.sides (node_numbers l.order) l.columns l.k
