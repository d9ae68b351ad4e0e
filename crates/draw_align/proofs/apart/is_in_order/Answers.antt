use Rattle.std.proofs.Common.{◌≡◌, ◌+◌, ◌≤◌, length, sym, ap, ◌∙◌, subst, arith, get_or}
use Rattle.st_sides.specs.Sides.{ins}
use Rattle.st_number.proofs.Public.{number_at, numbers_size}
use Rattle.draw_align.specs.Crossing.{IsSorted}
use Rattle.draw_align.specs.Faults.{AreDisjoint}
use Rattle.draw_align.proofs.ApartLemmas.{sorted_start, sorted_more, sorted_end, not_sorted}
use Rattle.draw_align.proofs.apart.is_in_order.Goals as goal

pub loop-k-init : goal.loop-k-init
loop-k-init c =
    let within : c.args.n ≤ length c.args.paths.now = omega arith in
    let D : AreDisjoint c.args.sides.now c.args.paths.now c.args.n = λ p l. c.requires.noted.disjoint p (omega arith) in
    sorted_start c.args.sides.now c.local.ensures c.args.columns.now c.requires.ranked c.args.paths.now c.requires.edges c.args.n within D c.args.v.0

pub follows-requires-clause-last : goal.follows-requires-clause-last
follows-requires-clause-last c = c.loop-k.invariant.there

pub returns-then-not-follows-clause-no : goal.returns-then-not-follows-clause-no
returns-then-not-follows-clause-no c = λ _.
    let g = c.args.sides.now in
    let es = c.ins-into.result.now in
    let k = c.loop-k.k in
    let within : c.args.n ≤ length c.args.paths.now = omega arith in
    let D : AreDisjoint c.args.sides.now c.args.paths.now c.args.n = λ p l. c.requires.noted.disjoint p (omega arith) in
    let at = ap (λ z. get_or z k 0) (sym c.ins-into.ensures.value) ∙ number_at es k in
    let size : length (ins c.args.sides.now c.args.v.0) ≡ length c.ins-into.result.now = ap length (sym c.ins-into.ensures.value) ∙ numbers_size es in
    not_sorted g c.local.ensures c.args.columns.now c.requires.ranked c.args.paths.now c.requires.edges c.args.n within D c.args.v.0 k c.loop-k.last c.loop-k.invariant c.requires.there
    (omega (arith, c.loop-k-test.true, size)) (get_or es k (record { 0 = 0 })).0 at c.passing-found.result c.passing-found.ensures.some (c.follows.ensures.no c.if-not-follows.true)

pub loop-k-preserved : goal.loop-k-preserved
loop-k-preserved c =
    let g = c.args.sides.now in
    let es = c.ins-into.result.now in
    let k = c.loop-k.k in
    let within : c.args.n ≤ length c.args.paths.now = omega arith in
    let D : AreDisjoint c.args.sides.now c.args.paths.now c.args.n = λ p l. c.requires.noted.disjoint p (omega arith) in
    let at = ap (λ z. get_or z k 0) (sym c.ins-into.ensures.value) ∙ number_at es k in
    subst (λ z. IsSorted g c.args.columns.now c.args.paths.now c.args.n c.args.v.0 (k + 1) z) (sym c.or-last.ensures)
    (sorted_more g c.local.ensures c.args.columns.now c.requires.ranked c.args.paths.now c.requires.edges c.args.n within D c.args.v.0 k c.loop-k.last c.loop-k.invariant
    (get_or es k (record { 0 = 0 })).0 at c.passing-found.result c.passing-found.ensures.some c.passing-found.ensures.there c.passing-found.ensures.none (c.follows.ensures.yes c.if-not-follows.false))

pub returns-clause-yes : goal.returns-clause-yes
returns-clause-yes c = λ _.
    let g = c.args.sides.now in
    let es = c.ins-into.result.now in
    let within : c.args.n ≤ length c.args.paths.now = omega arith in
    let D : AreDisjoint c.args.sides.now c.args.paths.now c.args.n = λ p l. c.requires.noted.disjoint p (omega arith) in
    let size : length (ins c.args.sides.now c.args.v.0) ≡ length c.ins-into.result.now = ap length (sym c.ins-into.ensures.value) ∙ numbers_size es in
    sorted_end g c.local.ensures c.args.columns.now c.requires.ranked c.args.paths.now c.requires.edges c.args.n within D c.args.v.0 c.loop-k.k c.loop-k.last c.loop-k.invariant c.requires.there
    (omega (arith, c.loop-k-test.false, c.loop-k.auto.k-end, size))
