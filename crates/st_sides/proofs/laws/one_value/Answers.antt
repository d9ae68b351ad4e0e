use Rattle.st_sides.proofs.OneValueLemmas.{one_value_law}
use Rattle.st_sides.proofs.laws.one_value.Goals as goal

pub returns : goal.returns
returns c = one_value_law
