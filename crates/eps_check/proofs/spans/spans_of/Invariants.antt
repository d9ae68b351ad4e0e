use Rattle.eps_check.specs.Spans.{AreSpanned}
use Rattle.eps_check.proofs.spans.spans_of.Given as goal

abbrev pub invariant-loop-k : goal.invariant-loop-k
invariant-loop-k l = AreSpanned l.items l.k l.spans.items
