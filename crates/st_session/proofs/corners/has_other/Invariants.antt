use Rattle.st_map.specs.Embedded.{darts, next}
use Rattle.st_session.specs.Corners.{IsLike, IsOnWay}
use Rattle.st_session.proofs.corners.has_other.Given as goal

abbrev pub invariant-loop-k : goal.invariant-loop-k
invariant-loop-k l = IsOnWay (darts l.map.graph) (next l.map.graph) (next l.map.graph l.d.0) (IsLike l.d.0) l.k l.end.0
