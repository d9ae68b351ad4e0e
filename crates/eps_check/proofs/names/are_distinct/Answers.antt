use Rattle.std.proofs.Common.{◌-◌, ◌<◌, IsTrue, arith, length}
use Rattle.std.proofs.lemmas.Option.{slice_get-get_or}
use Rattle.eps_check.proofs.NameLemmas.{distinct_next}
use Rattle.eps_check.proofs.names.are_distinct.Goals as goal

pub loop-k-preserved : goal.loop-k-preserved
loop-k-preserved c =
    let here = c.loop-k-test.true in
    let some = c.loop-k.auto.k in
    let before : c.loop-k.k - 1 < length c.args.vertices.now = omega (arith, here, some) in
    let less : IsTrue c.is_less.result = cc in
    distinct_next c.args.vertices.now c.loop-k.k _ _ some (slice_get-get_or c.args.vertices.now (c.loop-k.k - 1) _ before)
    (slice_get-get_or c.args.vertices.now c.loop-k.k _ here) (c.is_less.ensures less) c.loop-k.invariant
