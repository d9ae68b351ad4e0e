use Rattle.st_shape.specs.Clean.{FaultyAloneAt}
use Rattle.st_shape.specs.Least.{NoItem}
use Rattle.st_shape.proofs.search.first_alone.Given as goal

abbrev pub invariant-loop-i : goal.invariant-loop-i
invariant-loop-i l = NoItem l.i (FaultyAloneAt l.form l.items)
