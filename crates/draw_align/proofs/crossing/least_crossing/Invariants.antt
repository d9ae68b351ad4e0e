use Rattle.draw_align.specs.Crossing.{IsLeast, EarlierAt}
use Rattle.draw_align.proofs.crossing.least_crossing.Given as goal

abbrev pub invariant-loop-k : goal.invariant-loop-k
invariant-loop-k l = IsLeast (EarlierAt l.sides l.columns l.paths l.p l.x.0 l.y.0 l.k) l.least
