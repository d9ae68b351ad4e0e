use Rattle.st_reduce.proofs.OneLemmas.{one_reduced_law}
use Rattle.st_reduce.proofs.laws.one_reduced.Goals as goal

pub returns : goal.returns
returns c = one_reduced_law
