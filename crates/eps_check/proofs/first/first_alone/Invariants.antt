use Rattle.st_shape.specs.Clean.{FaultyAloneAt}
use Rattle.st_shape.specs.Least.{NoItem}
use Rattle.eps_check.proofs.first.first_alone.Given as goal

abbrev pub invariant-loop-i : goal.invariant-loop-i
invariant-loop-i l = NoItem l.i (FaultyAloneAt l.form l.items)
