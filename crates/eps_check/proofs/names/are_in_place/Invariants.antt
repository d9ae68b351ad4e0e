use Rattle.eps_check.specs.Names.{AreInPlace}
use Rattle.eps_check.proofs.names.are_in_place.Given as goal

abbrev pub invariant-loop-k : goal.invariant-loop-k
invariant-loop-k l = AreInPlace l.form l.slanted l.vertices l.items l.k
