use Rattle.st_order.proofs.OrderLemmas.{orders_law}
use Rattle.st_order.proofs.laws.orders.Goals as goal

pub returns : goal.returns
returns c = orders_law
