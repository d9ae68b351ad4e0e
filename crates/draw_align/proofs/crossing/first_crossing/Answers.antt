use Rattle.std.proofs.Common.{ℕ, suc, ◌≡◌, ◌-◌, ◌<◌, ◌≤◌, inl, inr, length, sym, ap, subst, ◌∙◌, arith, get_or}
use Rattle.std.proofs.lemmas.Bool.{cases_eq}
use Rattle.st_sides.specs.Sides.{edge_head}
use Rattle.draw_align.specs.Crossing.{IsLeast}
use Rattle.draw_align.specs.Listed.{path_at, Cross}
use Rattle.draw_align.proofs.StepLemmas.{edge_is, size_is}
use Rattle.draw_align.proofs.CrossLemmas.{met, first_met, none_met, none_at_all}
use Rattle.draw_align.proofs.crossing.first_crossing.Goals as goal

pub returns-in-Some-clause-some : goal.returns-in-Some-clause-some
returns-in-Some-clause-some c =
    let g = c.args.sides.now in
    let ps = c.args.paths.now in
    let p : ℕ = c.args.p in
    let es = c.path_in-path.result.now in
    let V = c.path_in-path.ensures.value in
    let i : ℕ = c.loop-k.k - 1 in
    let low : 1 ≤ c.loop-k.k = c.loop-k.invariant.low in
    let size : length c.path_in-path.result.now ≡ length (path_at c.args.paths.now c.args.p) = size_is ps c.args.p es V in
    let s : c.loop-k.k ≡ suc (c.loop-k.k - 1) = omega arith in
    let m : suc (c.loop-k.k - 1) < length (path_at c.args.paths.now c.args.p) = omega (arith, c.loop-k-test.true, size) in
    let y = ap (λ z. get_or (path_at ps c.args.p) z 0) (sym s) ∙ sym (edge_is ps c.args.p es V c.loop-k.k) in
    let M = met g c.local.ensures c.args.columns.now c.requires.ranked ps c.requires.edges c.args.noted.now.count c.requires.noted.within c.requires.noted.disjoint c.args.p c.requires.there
    i (get_or es i (record { 0 = 0 })).0 (get_or es c.loop-k.k (record { 0 = 0 })).0 c.least_crossing.result (sym (edge_is ps c.args.p es V i)) y m c.least_crossing.ensures in
    first_met g c.local.ensures c.args.columns.now c.requires.ranked ps c.requires.edges c.args.noted.now.count c.requires.noted.within c.requires.noted.disjoint c.args.p c.requires.there
    i c.head-vertex.result.0 c.in-Some.other m (ap (edge_head g) (sym (edge_is ps c.args.p es V i)) ∙ sym c.head-vertex.ensures.value)
    (subst (IsLeast (λ q. (q < c.args.p) × Cross g (path_at ps c.args.p) (path_at ps q) (edge_head g (get_or (path_at ps c.args.p) i 0)))) c.in-Some.is M)
    (λ j r l. c.loop-k.invariant.none j r (omega arith))

pub loop-k-preserved : goal.loop-k-preserved
loop-k-preserved c =
    let g = c.args.sides.now in
    let ps = c.args.paths.now in
    let es = c.path_in-path.result.now in
    let V = c.path_in-path.ensures.value in
    let low : 1 ≤ c.loop-k.k = c.loop-k.invariant.low in
    let size : length c.path_in-path.result.now ≡ length (path_at c.args.paths.now c.args.p) = size_is ps c.args.p es V in
    record {
      low = omega arith;
      none = λ i r l m. elim (cases_eq (suc i) c.loop-k.k) [
        | inl q ↦
            let e : i ≡ c.loop-k.k - 1 = omega arith in
            let n : suc i < length (path_at c.args.paths.now c.args.p) = omega (arith, c.loop-k-test.true, size) in
            none_met g c.local.ensures c.args.columns.now c.requires.ranked ps c.requires.edges c.args.noted.now.count c.requires.noted.within c.requires.noted.disjoint c.args.p c.requires.there
            i (get_or es (c.loop-k.k - 1) (record { 0 = 0 })).0 (get_or es c.loop-k.k (record { 0 = 0 })).0 c.least_crossing.result c.in-None.is
            (ap (λ z. get_or (path_at ps c.args.p) z 0) e ∙ sym (edge_is ps c.args.p es V (c.loop-k.k - 1)))
            (ap (λ z. get_or (path_at ps c.args.p) z 0) q ∙ sym (edge_is ps c.args.p es V c.loop-k.k)) n c.least_crossing.ensures r m
        | inr d ↦ c.loop-k.invariant.none i r (omega arith) m
      ];
    }

pub returns-clause-none : goal.returns-clause-none
returns-clause-none c =
    let g = c.args.sides.now in
    let ps = c.args.paths.now in
    let size : length c.path_in-path.result.now ≡ length (path_at c.args.paths.now c.args.p) = size_is ps c.args.p c.path_in-path.result.now c.path_in-path.ensures.value in
    let low : 1 ≤ c.loop-k.k = c.loop-k.invariant.low in
    λ q. none_at_all g c.local.ensures c.args.columns.now c.requires.ranked ps c.requires.edges c.args.noted.now.count c.requires.noted.within c.requires.noted.disjoint c.args.p c.requires.there
    (λ i r l. c.loop-k.invariant.none i r (omega (arith, c.loop-k-test.false, size, l)))
