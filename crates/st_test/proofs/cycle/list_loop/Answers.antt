use Rattle.std.proofs.Common.{◌≡◌, ℕ, ◌+◌, ◌-◌, ◌<◌, ◌≤◌, [], ◌∷◌, ◌++◌, length, get_or, ap, ◌∙◌, arith}
use Rattle.st_test.specs.BackTables.{looped}
use Rattle.st_test.proofs.BackSteps.{push_step}
use Rattle.st_test.proofs.cycle.list_loop.Goals as goal

pub loop-k-preserved : goal.loop-k-preserved
loop-k-preserved c =
    let k : ℕ = c.loop-k.k - 1 in
    let b : ℕ → ℕ = looped c.args.passed.now c.args.back.now c.args.first in
    let a1 : c.args.least ≤ c.loop-k.k = c.loop-k.invariant.above in
    let a2 : c.loop-k.k ≤ c.args.least + (length c.args.passed.now - c.args.first) = c.loop-k.invariant.below in
    let t : c.args.least < c.loop-k.k = c.loop-k-test.true in
    let at : get_or c.args.back.now (get_or c.args.passed.now c.wrap-at.result 0) 0 ≡ looped c.args.passed.now c.args.back.now c.args.first (c.loop-k.k - 1) =
    ap (λ z. get_or c.args.back.now (get_or c.args.passed.now z 0) 0) c.wrap-at.ensures.value in
    record {
      above = omega arith;
      below = omega arith;
      list = c.in_ok-push.ensures.ok
          ∙ ap (λ z. c.loop-k.es ++ z ∷ []) at
          ∙ push_step (looped c.args.passed.now c.args.back.now c.args.first) (c.loop-k.k - 1) c.loop-k.k
          (c.args.least + (length c.args.passed.now - c.args.first) - c.loop-k.k) (c.args.least + (length c.args.passed.now - c.args.first) - (c.loop-k.k - 1))
          c.loop-k.es c.loop-k.invariant.list (omega arith) (omega arith);
    }
