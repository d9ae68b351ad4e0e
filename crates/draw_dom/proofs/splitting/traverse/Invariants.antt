use Rattle.std.specs.List.{sum_by}
use Rattle.st_reduce.specs.Marks.{dummy_numbers}
use Rattle.st_sides.specs.Sides.{SidesValue}
use Rattle.draw_dom.specs.Splitting.{IsSplitSides}
use Rattle.draw_dom.proofs.SplittingLemmas.{IsGoing}
use Rattle.draw_dom.proofs.splitting.traverse.Given as goal

abbrev pub invariant-loop-e : goal.invariant-loop-e
invariant-loop-e l = (r : SidesValue) → IsSplitSides l.sides (dummy_numbers l.dummies.of_edges) l.dummies.vertices r → IsGoing l.sides r l.from_left l.stack.items l.waiting l.numbers l.next

abbrev pub decreases-loop-e : goal.decreases-loop-e
decreases-loop-e l = sum_by (λ z. z) l.waiting
