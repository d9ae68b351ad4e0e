use Rattle.std.proofs.lemmas.Option.{slice_get-get_or}
use Rattle.eps_check.proofs.BestLemmas.{beside_all, beside_next, beside_stop}
use Rattle.eps_check.proofs.pairs.best_beside.Goals as goal

pub returns-then-s-t : goal.returns-then-s-t
returns-then-s-t c =
    beside_stop c.args.items.now c.args.spans.now c.requires.sorted c.args.p c.loop-q.q _ _ c.args.best c.loop-q.found
    (slice_get-get_or c.args.spans.now c.args.p _ c.requires.within) (slice_get-get_or c.args.spans.now c.loop-q.q _ c.loop-q-test.true) c.if-s-t.true c.loop-q.invariant

pub loop-q-preserved : goal.loop-q-preserved
loop-q-preserved c =
    beside_next c.args.items.now c.args.spans.now c.args.p c.loop-q.q _ _ c.args.best c.loop-q.found _
    (slice_get-get_or c.args.spans.now c.args.p _ c.requires.within) (slice_get-get_or c.args.spans.now c.loop-q.q _ c.loop-q-test.true) c.better-found.ensures c.loop-q.invariant

pub returns : goal.returns
returns c = beside_all c.args.items.now c.args.spans.now c.args.p c.loop-q.q c.args.best c.loop-q.found c.loop-q-test.false c.loop-q.invariant
