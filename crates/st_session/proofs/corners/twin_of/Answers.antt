use Rattle.std.proofs.Common.{arith}
use Rattle.st_map.specs.Embedded.{edges}
use Rattle.st_map.proofs.Public.{twin-below}
use Rattle.st_session.proofs.corners.twin_of.Goals as goal

pub returns-clause-within : goal.returns-clause-within
returns-clause-within c = omega (arith, c.twin.ensures.value, twin-below (edges c.args.map.now.graph) c.args.d.0 c.requires)
