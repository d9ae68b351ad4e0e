use Rattle.st_sides.proofs.LawLemmas.{local_law}
use Rattle.st_sides.proofs.laws.sides_fit.Goals as goal

pub returns : goal.returns
returns c = local_law
