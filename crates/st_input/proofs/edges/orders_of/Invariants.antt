use Rattle.std.proofs.Common.{◌≡◌, map, take, drop, length}
use Rattle.st_input.specs.EdgeNames.{known_names}
use Rattle.st_input.specs.Faults.{orders_fault, written_in}
use Rattle.st_input.proofs.edges.orders_of.Given as goal

abbrev pub invariant-loop-node : goal.invariant-loop-node
invariant-loop-node l = record {
  orders : l.out ≡ map (written_in (known_names l.names)) (take l.node-index l.nodes);
  size : length l.out ≡ l.node-index;
  faults : orders_fault (known_names l.names) (drop l.node-index l.nodes) ≡ orders_fault (known_names l.names) l.nodes;
}
