use Rattle.std.proofs.Common.{ℕ, ◌<◌, [], length, refl}
use Rattle.std.specs.List.{All}
use Rattle.std.proofs.lemmas.List.Elements.{All-from_get_or}
use Rattle.st_map.specs.Orders.{order_at}
use Rattle.st_map.specs.Tables.{AreEdges}
use Rattle.st_map.proofs.tests.map_of.Goals as goal

pub from_orders-requires-clause-edges : goal.from_orders-requires-clause-edges
from_orders-requires-clause-edges c =
    let each : (v : ℕ) → v < length c.in_ok-lists.lists → AreEdges c.in_ok-graph.graph.ends (order_at c.in_ok-lists.lists v) =
    c.if-not-are_edges.ensures refl in
    All-from_get_or (All (λ e. e < length c.in_ok-graph.graph.ends)) c.in_ok-lists.lists [] (λ v l.
    All-from_get_or (λ e. e < length c.in_ok-graph.graph.ends) (order_at c.in_ok-lists.lists v) 0 (each v l))
