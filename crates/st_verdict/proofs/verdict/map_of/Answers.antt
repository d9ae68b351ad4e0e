use Rattle.st_verdict.proofs.VerdictLemmas.{all_listed}
use Rattle.st_verdict.proofs.verdict.map_of.Goals as goal

pub from_orders-requires-clause-edges : goal.from_orders-requires-clause-edges
from_orders-requires-clause-edges c =
    rw (c.orders.ensures.value, c.graph.ensures) (all_listed c.args.spec.now.graph c.args.spec.now.orders c.orders.ensures.size c.orders.ensures.listed)
