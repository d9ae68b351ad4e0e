use Rattle.std.proofs.Common.{[], get_or}
use Rattle.st_sides.specs.Beside.{IsBeside}
use Rattle.st_sides.specs.Filled.{IsFilled}
use Rattle.st_sides.proofs.beside.vertex_nodes.Given as goal

abbrev pub invariant-loop-v : goal.invariant-loop-v
invariant-loop-v l = IsFilled 0 (λ v z. IsBeside l.graph.source l.graph.sink l.nodes l.right l.half (get_or l.outs v []) v z) l.v l.list
