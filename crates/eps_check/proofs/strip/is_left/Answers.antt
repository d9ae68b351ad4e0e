use Rattle.std.proofs.Common.{◌∙◌, ◌≡◌, ◌%◌, ◌<◌, ◌*◌, inl, inr, arith}
use Rattle.std.proofs.lemmas.Bool.Decides.{nat_tests}
use Rattle.eps_check.proofs.StripLemmas.{passes_from}
use Rattle.eps_check.proofs.strip.is_left.Goals as goal

pub returns-then-lo-eq1 : goal.returns-then-lo-eq1
returns-then-lo-eq1 c = λ t.
    let less : c.from-3.result * c.from-t_depth.result < c.from-4.result * c.from-s_depth.result = grind (arith, nat_tests) in
    passes_from c.args.s.now c.args.t.now c.args.lo c.args.hi _ _ _ _ _ _ (c.from.ensures ∙ c.place_at.ensures) (c.from-2.ensures ∙ c.place_at-2.ensures) (c.from-3.ensures ∙ c.place_at-3.ensures) (c.from-4.ensures ∙ c.place_at-4.ensures)
    c.from-s_depth.ensures c.from-t_depth.ensures c.if-b-a.false c.if-a-s.false c.if-a-t.false c.if-s-b.false c.if-t-b.false
    c.if-low_other-low.false c.if-high_other-high.false (inr less) (λ e. absurd (let o = c.if-lo-eq1.true in omega arith)) (λ e. less)

pub returns-then-high-high_other : goal.returns-then-high-high_other
returns-then-high-high_other c = λ t.
    let less : c.from.result * c.from-t_depth.result < c.from-2.result * c.from-s_depth.result =
    (let a = c.if-low_other-low.false in let b = c.if-low-low_other.false in omega (arith, a, b)) in
    passes_from c.args.s.now c.args.t.now c.args.lo c.args.hi _ _ _ _ _ _ (c.from.ensures ∙ c.place_at.ensures) (c.from-2.ensures ∙ c.place_at-2.ensures) (c.from-3.ensures ∙ c.place_at-3.ensures) (c.from-4.ensures ∙ c.place_at-4.ensures)
    c.from-s_depth.ensures c.from-t_depth.ensures c.if-b-a.false c.if-a-s.false c.if-a-t.false c.if-s-b.false c.if-t-b.false
    c.if-low_other-low.false c.if-high_other-high.false (inl less) (λ e. less) (λ e. c.if-high-high_other.true)

pub returns-else-high-high_other : goal.returns-else-high-high_other
returns-else-high-high_other c = λ t.
    let less : c.from.result * c.from-t_depth.result < c.from-2.result * c.from-s_depth.result =
    (let a = c.if-low_other-low.false in let b = c.if-low-low_other.false in omega (arith, a, b)) in
    let even : c.args.hi % 2 ≡ 0 = grind (arith, nat_tests) in
    passes_from c.args.s.now c.args.t.now c.args.lo c.args.hi _ _ _ _ _ _ (c.from.ensures ∙ c.place_at.ensures) (c.from-2.ensures ∙ c.place_at-2.ensures) (c.from-3.ensures ∙ c.place_at-3.ensures) (c.from-4.ensures ∙ c.place_at-4.ensures)
    c.from-s_depth.ensures c.from-t_depth.ensures c.if-b-a.false c.if-a-s.false c.if-a-t.false c.if-s-b.false c.if-t-b.false
    c.if-low_other-low.false c.if-high_other-high.false (inl less) (λ e. less) (λ e. absurd (omega (arith, e, even)))
