-- What composing a polyline picture asks.
--   room     a graph of so many edges has room for all items
use Rattle.std.proofs.Common.{◌<◌, ◌≤◌, ◌+◌, ◌^◌, arith}
use Rattle.st_ids.specs.declared.limits.TheConstants.{MOST_COORDINATE}
use Rattle.st_sides.specs.Held.{IsHeld}
use Rattle.st_sides.specs.Sides.{SidesValue, edge_count, IsSides}

pub room : (g : SidesValue) → IsHeld g → IsSides g → edge_count g ≤ MOST_COORDINATE → g.vertices + edge_count g + g.vertices < 2 ^ 31
unfolding edge_count
room g H S few = omega (arith, H.own.planar.euler, H.own.sides.nodes, S.has_t, few)
