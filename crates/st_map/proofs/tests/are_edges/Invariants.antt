use Rattle.std.proofs.Common.{ℕ, ◌<◌}
use Rattle.st_map.specs.Orders.{order_at}
use Rattle.st_map.specs.Tables.{AreEdges}
use Rattle.st_map.proofs.tests.are_edges.Given as goal

abbrev pub invariant-loop-v : goal.invariant-loop-v
invariant-loop-v l = (u : ℕ) → u < l.v → AreEdges l.graph.ends (order_at l.lists u)
