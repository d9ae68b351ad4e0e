use Rattle.st_sides.proofs.SweptLemmas.{swept_law}
use Rattle.st_sides.proofs.laws.swept.Goals as goal

pub returns : goal.returns
returns c = swept_law
