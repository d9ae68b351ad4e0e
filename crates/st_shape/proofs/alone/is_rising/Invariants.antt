use Rattle.std.proofs.Common.{◌<◌}
use Rattle.st_shape.specs.declared.point.Segment.{Segment}
use Rattle.st_shape.specs.Clean.{IsSegmentOf, RisesIn}
use Rattle.st_shape.proofs.alone.is_rising.Given as goal

abbrev pub invariant-loop-k : goal.invariant-loop-k
invariant-loop-k l = (s : Segment) (h : IsSegmentOf l.points s) → h.k < l.k → RisesIn l.form s
