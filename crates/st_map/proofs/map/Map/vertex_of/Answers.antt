use Rattle.std.proofs.Common.{arith}
use Rattle.st_map.specs.Embedded.{edges}
use Rattle.st_map.proofs.EndLemmas.{edge_of-below}
use Rattle.st_map.proofs.map.Map.vertex_of.Goals as goal

pub tail-requires : goal.tail-requires
tail-requires c = omega (arith, c.edge.ensures, edge_of-below (edges c.args.self.now.graph) c.args.d.0 c.requires)

pub head-requires : goal.head-requires
head-requires c = omega (arith, c.edge-else-is_out.ensures, edge_of-below (edges c.args.self.now.graph) c.args.d.0 c.requires)
