use Rattle.st_order.proofs.OrderLemmas.{numberings_law}
use Rattle.st_order.proofs.laws.numberings.Goals as goal

pub returns : goal.returns
returns c = numberings_law
