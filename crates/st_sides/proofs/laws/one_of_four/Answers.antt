use Rattle.st_sides.proofs.SweptLemmas.{trichotomy_law}
use Rattle.st_sides.proofs.laws.one_of_four.Goals as goal

pub returns : goal.returns
returns c = trichotomy_law
