use Rattle.st_sides.proofs.NormalLemmas.{order_law}
use Rattle.st_sides.proofs.laws.orders_stay.Goals as goal

pub returns : goal.returns
returns c = order_law
