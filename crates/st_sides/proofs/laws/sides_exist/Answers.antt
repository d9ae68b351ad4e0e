use Rattle.st_sides.proofs.LawLemmas.{sides_law}
use Rattle.st_sides.proofs.laws.sides_exist.Goals as goal

pub returns : goal.returns
returns c = sides_law
