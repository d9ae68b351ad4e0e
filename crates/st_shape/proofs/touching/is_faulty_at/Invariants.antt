use Rattle.std.proofs.Common.{◌≡◌, ◌<◌, ◌+◌, ◌-◌, IsTrue, length}
use Rattle.st_shape.specs.declared.point.Segment.{Segment}
use Rattle.st_shape.specs.Clean.{IsSegmentOf}
use Rattle.st_shape.proofs.touching.is_faulty_at.Given as goal
use Rattle.st_shape.specs.Steps.{HitsBeside}

abbrev pub invariant-loop-k : goal.invariant-loop-k
invariant-loop-k l =
    (s : Segment) (h : IsSegmentOf l.points s) → h.k < l.k →
    ¬ HitsBeside l.figure s.a s.b (IsTrue l.at_tail × (h.k ≡ 0)) (IsTrue l.at_head × (h.k + 1 ≡ length l.points - 1))
