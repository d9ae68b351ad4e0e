use Rattle.st_sides.proofs.OwnLemmas.{own_law}
use Rattle.st_sides.proofs.laws.own.Goals as goal

pub returns : goal.returns
returns c = own_law
