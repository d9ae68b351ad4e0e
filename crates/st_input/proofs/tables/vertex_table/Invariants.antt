use Rattle.std.proofs.Common.{◌≡◌, map, take, length}
use Rattle.st_input.specs.Faults.{node_name}
use Rattle.st_input.proofs.tables.vertex_table.Given as goal

abbrev pub invariant-loop-node : goal.invariant-loop-node
invariant-loop-node l = (l.names ≡ map node_name (take l.node-index l.nodes)) × (length l.names ≡ l.node-index)
