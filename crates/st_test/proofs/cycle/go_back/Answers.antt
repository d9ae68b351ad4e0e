use Rattle.std.proofs.Common.{◌≡◌, ◌+◌, ◌-◌, ◌^◌, ◌<◌, ◌≤◌, [], ◌∷◌, ◌++◌, length, get_or, ap, ◌∙◌, sym, subst, arith}
use Rattle.st_ids.specs.Graph.{tail_of, head_of}
use Rattle.std.proofs.Math.ListN.{set}
use Rattle.std.proofs.lemmas.List.{get_or_default, length_push}
use Rattle.st_test.specs.BackTables.{IsTracing, parent}
use Rattle.st_test.proofs.BackSteps.{passed-short, trail_more}
use Rattle.st_test.proofs.cycle.go_back.Goals as goal

pub overflow_cast-len : goal.overflow_cast-len
unfolding tail_of head_of
overflow_cast-len c =
    let s : length c.loop-passed.passed.items ≤ c.args.n =
    passed-short c.args.n c.args.ends.now c.args.left.now c.args.back.now c.args.start c.loop-passed.passed.items c.loop-passed.place.items c.loop-passed.v c.requires.few c.loop-passed.invariant in
    omega (arith, c.len.ensures, c.loop-passed.passed.ok.0, c.requires.few)

pub loop-passed-smaller : goal.loop-passed-smaller
unfolding tail_of head_of
loop-passed-smaller c =
    let s : length c.loop-passed.passed.items ≤ c.args.n =
    passed-short c.args.n c.args.ends.now c.args.left.now c.args.back.now c.args.start c.loop-passed.passed.items c.loop-passed.place.items c.loop-passed.v c.requires.few c.loop-passed.invariant in
    let p : length c.push.new.self.items ≡ length c.loop-passed.passed.items + 1 = ap length c.in_ok-push.ensures.items ∙ length_push c.loop-passed.passed.items c.loop-passed.v in
    let e : c.args.n + 1 - length c.push.new.self.items < c.args.n + 1 - length c.loop-passed.passed.items = omega arith in
    e

pub loop-passed-preserved : goal.loop-passed-preserved
unfolding tail_of head_of
loop-passed-preserved c =
    let n : length c.loop-passed.passed.items ≡ c.len.result = omega (arith, c.len.ensures, c.loop-passed.passed.ok.0) in
    let lv : c.loop-passed.v < length c.loop-passed.place.items = omega (arith, c.loop-passed.invariant.below, c.loop-passed.invariant.size) in
    let free : get_or c.loop-passed.place.items c.loop-passed.v 0 ≡ 2 ^ 32 - 1 =
    get_or_default c.loop-passed.place.items c.loop-passed.v 0 c.index.result.now lv ∙ sym c.index.ensures ∙ c.loop-passed-test.true in
    subst (λ z. IsTracing c.args.n c.args.ends.now c.args.left.now c.args.back.now c.args.start z (set c.loop-passed.place.items c.loop-passed.v c.len.result) (parent c.args.ends.now c.args.back.now c.loop-passed.v))
    (sym c.in_ok-push.ensures.items)
    (subst (λ z. IsTracing c.args.n c.args.ends.now c.args.left.now c.args.back.now c.args.start (c.loop-passed.passed.items ++ c.loop-passed.v ∷ []) (set c.loop-passed.place.items c.loop-passed.v z) (parent c.args.ends.now c.args.back.now c.loop-passed.v)) n
    (trail_more c.args.n c.args.ends.now c.args.left.now c.args.back.now c.args.start c.loop-passed.passed.items c.loop-passed.place.items c.loop-passed.v c.requires.few c.loop-passed.invariant c.requires.closed free))
