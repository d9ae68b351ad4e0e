use Rattle.std.proofs.Common.{◌≡◌, ◌+◌, ◌*◌}
use Rattle.st_test.specs.FaceNumbers.{orbit_number}
use Rattle.st_sides.specs.Filled.{IsFilled, node_number}
use Rattle.st_sides.proofs.nodes.edge_nodes.Given as goal

abbrev pub invariant-loop-e : goal.invariant-loop-e
invariant-loop-e l =
    IsFilled 0 (λ e z. z ≡ node_number (orbit_number l.graph.map.graph l.graph.outer) l.half (orbit_number l.graph.map.graph (2 * e + l.side))) l.e l.nodes
