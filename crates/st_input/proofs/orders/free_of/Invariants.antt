use Rattle.std.proofs.Common.{◌≡◌, map, take, length}
use Rattle.st_input.specs.Orders.{is_free}
use Rattle.st_input.proofs.orders.free_of.Given as goal

abbrev pub invariant-loop-node : goal.invariant-loop-node
invariant-loop-node l = (l.free ≡ map is_free (take l.node-index l.nodes)) × (length l.free ≡ l.node-index)
