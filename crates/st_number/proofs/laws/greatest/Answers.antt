use Rattle.st_number.proofs.GreatestLemmas.{finite_law}
use Rattle.st_number.proofs.laws.greatest.Goals as goal

pub returns : goal.returns
returns c = finite_law
