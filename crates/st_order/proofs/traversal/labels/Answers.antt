use Rattle.st_order.proofs.LabelLemmas.{by_labels}
use Rattle.st_order.proofs.traversal.labels.Goals as goal

pub returns-clause-reaching : goal.returns-clause-reaching
returns-clause-reaching c = by_labels c.args.sides.now c.local.ensures (record { x = c.in_ok-x.x; y = c.in_ok-y.y }) (record { x = c.in_ok-x.ensures; y = c.in_ok-y.ensures })
