use Rattle.std.proofs.Common.{◌≡◌, [], length, take, drop}
use Rattle.st_input.specs.Faults.{first_fault, node_fault, node_names}
use Rattle.st_input.proofs.nodes.nodes_by_name.Given as goal

abbrev pub invariant-loop-node : goal.invariant-loop-node
invariant-loop-node l = record {
  names : l.set ≡ node_names (take l.node-index l.nodes);
  size : length l.set ≡ l.node-index;
  faults : first_fault node_fault (take l.node-index l.nodes) (drop l.node-index l.nodes) ≡ first_fault node_fault [] l.nodes;
}
