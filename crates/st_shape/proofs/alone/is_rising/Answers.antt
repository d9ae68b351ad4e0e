use Rattle.std.proofs.Common.{inl, inr, refl, sym, subst, arith}
use Rattle.std.proofs.lemmas.Bool.{cases_lt}
use Rattle.st_shape.specs.Clean.{RisesIn}
use Rattle.st_shape.proofs.Climbing.{segment_read, segment_within}
use Rattle.st_shape.proofs.alone.is_rising.Goals as goal

pub loop-k-preserved : goal.loop-k-preserved
loop-k-preserved c = λ s h less.
    elim (cases_lt h.k c.loop-k.k) [
      | inl before ↦ c.loop-k.invariant s h before
      | inr here ↦ subst (RisesIn c.args.form) (sym (segment_read c.args.points.now s h c.loop-k.k _ _ (omega arith))) (c.rises.ensures.0 c.if-not-rises.false)
    ]

pub returns : goal.returns
returns c = (λ t s h. c.loop-k.invariant s h (let w = segment_within c.args.points.now s h in omega arith), λ h. refl)
