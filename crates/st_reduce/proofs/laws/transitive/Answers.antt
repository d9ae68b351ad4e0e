use Rattle.st_reduce.proofs.TransitiveLemmas.{transitive_law}
use Rattle.st_reduce.proofs.laws.transitive.Goals as goal

pub returns : goal.returns
returns c = transitive_law
