use Rattle.draw_align.specs.Crossing.{IsSorted}
use Rattle.draw_align.proofs.apart.is_in_order.Given as goal

abbrev pub invariant-loop-k : goal.invariant-loop-k
invariant-loop-k l = IsSorted l.sides l.columns l.paths l.n l.fn.v.0 l.k l.last
