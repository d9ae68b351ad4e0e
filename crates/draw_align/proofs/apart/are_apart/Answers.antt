use Rattle.std.proofs.Common.{inl, inr, sym, subst, arith}
use Rattle.std.proofs.lemmas.Bool.{cases_eq}
use Rattle.draw_align.specs.Faults.{AreApartAt}
use Rattle.draw_align.proofs.apart.are_apart.Goals as goal

pub returns-then-not-is_in_order-clause-no : goal.returns-then-not-is_in_order-clause-no
returns-then-not-is_in_order-clause-no c = λ _ A. c.is_in_order.ensures.no c.if-not-is_in_order.true (A c.loop-v.v (omega arith))

pub loop-v-preserved : goal.loop-v-preserved
loop-v-preserved c = λ u l. elim (cases_eq u c.loop-v.v) [
  | inl q ↦ subst (λ z. AreApartAt c.args.sides.now c.args.paths.now c.args.n z) (sym q) (c.is_in_order.ensures.yes c.if-not-is_in_order.false)
  | inr d ↦ c.loop-v.invariant u (omega arith)
]

pub returns-clause-yes : goal.returns-clause-yes
returns-clause-yes c = λ _ v l. c.loop-v.invariant v (omega arith)
