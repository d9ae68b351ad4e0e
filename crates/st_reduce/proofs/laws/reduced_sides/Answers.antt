use Rattle.st_reduce.proofs.ReducedSidesLemmas.{reduced_sides_law}
use Rattle.st_reduce.proofs.laws.reduced_sides.Goals as goal

pub returns : goal.returns
returns c = reduced_sides_law
