use Rattle.std.proofs.Common.{◌≡◌, take, length}
use Rattle.st_input.specs.Faults.{edge_ids}
use Rattle.st_input.proofs.tables.ids_table.Given as goal

abbrev pub invariant-loop-edge : goal.invariant-loop-edge
invariant-loop-edge l = (l.names ≡ edge_ids (take l.edge-index l.edges)) × (length l.names ≡ l.edge-index)
