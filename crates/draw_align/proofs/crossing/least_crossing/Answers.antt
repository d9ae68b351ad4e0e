use Rattle.std.proofs.Common.{◌≡◌, ◌+◌, length, sym, ap, subst, ◌∙◌, arith, get_or}
use Rattle.st_sides.specs.Sides.{ins, edge_head}
use Rattle.st_number.proofs.Public.{number_at, numbers_size}
use Rattle.draw_align.specs.Crossing.{IsLeast, EarlierAt}
use Rattle.draw_align.proofs.CrossLemmas.{at_more}
use Rattle.draw_align.proofs.crossing.least_crossing.Goals as goal

pub loop-k-preserved : goal.loop-k-preserved
loop-k-preserved c =
    let g = c.args.sides.now in
    let es = c.ins-into.result.now in
    let k = c.loop-k.k in
    let at = ap (λ z. get_or z k 0) (ap (ins g) (sym c.head.ensures.value) ∙ sym c.ins-into.ensures.value) ∙ number_at es k in
    subst (IsLeast (EarlierAt g c.args.columns.now c.args.paths.now c.args.p c.args.x.0 c.args.y.0 (k + 1))) (sym c.lesser-least.ensures)
    (at_more g c.args.columns.now c.args.paths.now c.args.p c.args.x.0 c.args.y.0 k (get_or es k (record { 0 = 0 })).0 c.loop-k.least c.crossed_by-found.result at c.loop-k.invariant c.crossed_by-found.ensures)

pub returns : goal.returns
returns c =
    let g = c.args.sides.now in
    let size : length (ins c.args.sides.now (edge_head c.args.sides.now c.args.x.0)) ≡ length c.ins-into.result.now =
    ap (λ z. length (ins c.args.sides.now z)) (sym c.head.ensures.value) ∙ ap length (sym c.ins-into.ensures.value) ∙ numbers_size c.ins-into.result.now in
    let e : c.loop-k.k ≡ length (ins c.args.sides.now (edge_head c.args.sides.now c.args.x.0)) = omega (arith, c.loop-k-test.false, c.loop-k.auto.k-end, size) in
    subst (λ z. IsLeast (EarlierAt g c.args.columns.now c.args.paths.now c.args.p c.args.x.0 c.args.y.0 z) c.loop-k.least) e c.loop-k.invariant
