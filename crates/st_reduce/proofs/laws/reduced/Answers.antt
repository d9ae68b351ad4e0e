use Rattle.st_reduce.proofs.ReducedLemmas.{reduced_law}
use Rattle.st_reduce.proofs.laws.reduced.Goals as goal

pub returns : goal.returns
returns c = reduced_law
