use Rattle.std.proofs.Common.{◌<◌, [], length, arith}
use Rattle.std.specs.List.{All}
use Rattle.std.proofs.lemmas.List.Elements.{All-from_get_or}
use Rattle.st_map.specs.Orders.{order_at}
use Rattle.st_session.proofs.session_tests.map_of.Goals as goal

pub from_orders-requires-clause-edges : goal.from_orders-requires-clause-edges
from_orders-requires-clause-edges c =
    All-from_get_or (All (λ e. e < length c.args.graph.now.ends)) c.in_ok-lists.lists [] (λ v l.
    All-from_get_or (λ e. e < length c.args.graph.now.ends) (order_at c.in_ok-lists.lists v) 0 (λ k lk.
    omega (arith, c.in_ok-lists.ensures v l k lk, c.edges.ensures.value)))
