use Rattle.std.specs.List.{sum_by}
use Rattle.st_order.proofs.StackLemmas.{IsGoing}
use Rattle.st_order.proofs.traversal.traverse.Given as goal

abbrev pub invariant-loop-e : goal.invariant-loop-e
invariant-loop-e l = IsGoing l.sides l.from_left l.stack.items l.waiting l.number l.next

abbrev pub decreases-loop-e : goal.decreases-loop-e
decreases-loop-e l = sum_by (λ z. z) l.waiting
