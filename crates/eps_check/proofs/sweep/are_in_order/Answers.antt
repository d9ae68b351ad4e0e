use Rattle.std.proofs.Common.{IsTrue}
use Rattle.std.proofs.lemmas.Option.{slice_get-get_or}
use Rattle.eps_check.proofs.SweepLemmas.{in_order, swept_next}
use Rattle.eps_check.proofs.sweep.are_in_order.Goals as goal

pub loop-k-preserved : goal.loop-k-preserved
loop-k-preserved c =
    let strip : IsTrue c.is_strip.result = cc in
    let placed : IsTrue c.in_ok-place.field-0 = cc in
    swept_next c.args.strips.now c.loop-k.front c.place.new.front c.args.cells c.loop-k.k _ (slice_get-get_or c.args.strips.now c.loop-k.k _ c.loop-k-test.true)
    (c.is_strip.ensures strip) c.if-cells-p.false (c.in_ok-place.ensures placed) c.loop-k.invariant

pub returns : goal.returns
returns c = λ t. in_order c.args.strips.now c.loop-k.front c.args.cells c.loop-k.k c.loop-k-test.false c.loop-k.invariant
