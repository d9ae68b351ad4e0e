use Rattle.std.proofs.Common.{◌≡◌, ◌<◌, IsTrue}
use Rattle.st_shape.specs.declared.point.Segment.{Segment}
use Rattle.st_shape.specs.Clean.{IsSegmentOf}
use Rattle.st_shape.proofs.CrossLines.{Apart}
use Rattle.st_shape.proofs.crossing.cross_apart.Given as goal

abbrev pub invariant-loop-k : goal.invariant-loop-k
invariant-loop-k l =
    (s t : Segment) (h : IsSegmentOf l.first s) (g : IsSegmentOf l.second t) → h.k < l.k →
    ¬ Apart l.first l.second (IsTrue l.same.tails) (IsTrue l.same.tail_head) (IsTrue l.same.head_tail) (IsTrue l.same.heads) s t h g

abbrev pub invariant-loop-m : goal.invariant-loop-m
invariant-loop-m l = record {
  before : (s t : Segment) (h : IsSegmentOf l.first s) (g : IsSegmentOf l.second t) → h.k < l.k →
      ¬ Apart l.first l.second (IsTrue l.same.tails) (IsTrue l.same.tail_head) (IsTrue l.same.head_tail) (IsTrue l.same.heads) s t h g;
  here : (s t : Segment) (h : IsSegmentOf l.first s) (g : IsSegmentOf l.second t) → h.k ≡ l.k → g.k < l.m →
      ¬ Apart l.first l.second (IsTrue l.same.tails) (IsTrue l.same.tail_head) (IsTrue l.same.head_tail) (IsTrue l.same.heads) s t h g;
}
