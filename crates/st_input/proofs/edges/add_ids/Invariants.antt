use Rattle.std.proofs.Common.{◌≡◌, [], take, drop, length}
use Rattle.st_input.specs.Faults.{first_fault, id_fault, edge_ids}
use Rattle.st_input.proofs.edges.add_ids.Given as goal

abbrev pub invariant-loop-edge : goal.invariant-loop-edge
invariant-loop-edge l = record {
  size : length l.set ≡ l.edge-index;
  names : l.set ≡ edge_ids (take l.edge-index l.edges);
  faults : first_fault id_fault (take l.edge-index l.edges) (drop l.edge-index l.edges) ≡ first_fault id_fault [] l.edges;
}
