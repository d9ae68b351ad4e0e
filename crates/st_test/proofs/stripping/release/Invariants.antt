use Rattle.std.proofs.Common.{length}
use Rattle.st_test.specs.StripState.{AreGoing}
use Rattle.st_test.proofs.stripping.release.Given as goal

abbrev pub invariant-loop-link : goal.invariant-loop-link
invariant-loop-link l = AreGoing (length l.fn.degree) l.ends l.place l.fn.order.items l.order.items l.es.items l.degree l.link

abbrev pub decreases-loop-link : goal.decreases-loop-link
decreases-loop-link l = l.link
