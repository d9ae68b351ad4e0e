use Rattle.st_order.proofs.OrderLemmas.{reaching_law}
use Rattle.st_order.proofs.laws.reaching.Goals as goal

pub returns : goal.returns
returns c = reaching_law
