use Rattle.std.proofs.Common.{◌+◌, ap, ◌∙◌, sym, subst}
use Rattle.st_test.specs.StripState.{AreZeros}
use Rattle.st_test.proofs.StripGoing.{zeros_more, zeros_same}
use Rattle.st_test.proofs.stripping.list_zeros.Goals as goal
use Rattle.st_test.proofs.stripping.list_zeros.Goals.{then-degree-v-eq0+in_ok-push, else-degree-v-eq0}

pub loop-v-preserved : goal.loop-v-preserved
loop-v-preserved c =
    elim c.if-degree-v-eq0.branch [
      | then-degree-v-eq0+in_ok-push w ↦
          subst (λ z. AreZeros (c.loop-v.v + 1) c.args.degree.now z) (sym (ap (λ v. v.items) w.order-is ∙ w.in_ok-push.ensures.items))
          (zeros_more c.loop-v.v c.args.degree.now c.loop-v.order.items c.loop-v.invariant w.if-degree-v-eq0.true)
      | else-degree-v-eq0 w ↦
          subst (λ z. AreZeros (c.loop-v.v + 1) c.args.degree.now z) (sym (ap (λ v. v.items) w.order-is))
          (zeros_same c.loop-v.v c.args.degree.now c.loop-v.order.items c.loop-v.invariant w.if-degree-v-eq0.false)
    ]
