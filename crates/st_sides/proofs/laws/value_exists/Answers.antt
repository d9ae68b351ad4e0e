use Rattle.st_sides.proofs.ExistLemmas.{exist_law}
use Rattle.st_sides.proofs.laws.value_exists.Goals as goal

pub returns : goal.returns
returns c = exist_law
