use Rattle.eps_check.proofs.SpanLemmas.{spans_next}
use Rattle.eps_check.proofs.spans.spans_of.Goals as goal

pub loop-k-preserved : goal.loop-k-preserved
loop-k-preserved c = spans_next c.args.items.now c.loop-k.k _ c.loop-k.spans.items _ c.index-items-k.is c.loop-k.invariant c.in_ok-add_spans.ensures.keeps c.in_ok-add_spans.ensures.has
