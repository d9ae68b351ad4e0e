use Rattle.std.proofs.Common.{◌≡◌}
use Rattle.st_map.specs.Embedded.{darts, phi}
use Rattle.st_session.specs.Corners.{IsOnWay}
use Rattle.st_session.proofs.corners.are_one_face.Given as goal

abbrev pub invariant-loop-k : goal.invariant-loop-k
invariant-loop-k l = IsOnWay (darts l.map.graph) (phi l.map.graph) l.c.0 (λ x. x ≡ l.d.0) l.k l.end.0
