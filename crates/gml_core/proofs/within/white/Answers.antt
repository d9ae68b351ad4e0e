use Rattle.std.proofs.Common.{◌∙◌, ℕ, ◌++◌, false, sym, ap, get_or, arith, add-zero}
use Rattle.gml_core.specs.Pieces.{after_gap}
use Rattle.gml_core.proofs.Looks.{skip_more}
use Rattle.gml_core.proofs.Wholes.{space_step}
use Rattle.gml_core.proofs.within.white.Goals as goal

pub loop-n-init : goal.loop-n-init
loop-n-init c = (omega arith, λ at d. ap (λ (p : ℕ). after_gap false p (c.args.text.now ++ d)) (sym (add-zero at)))

pub loop-n-preserved : goal.loop-n-preserved
loop-n-preserved c = (
  omega arith,
  λ at d. c.loop-n.invariant.1 at d ∙ skip_more false false c.args.text.now c.loop-n.n at d c.loop-n-test.true (space_step (get_or c.args.text.now c.loop-n.n 0) (sym c.is_space.ensures ∙ c.if-is_space.true)),
)
