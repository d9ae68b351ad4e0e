use Rattle.std.proofs.Common.{◌∙◌, false, sym, get_or, arith}
use Rattle.gml_core.proofs.Looks.{skip_more}
use Rattle.gml_core.proofs.Wholes.{space_step, first_space}
use Rattle.gml_core.proofs.within.spaces.Goals as goal

pub loop-n-init : goal.loop-n-init
loop-n-init c = (omega arith, omega arith, first_space c.args.text.now c.requires.some c.requires.first)

pub loop-n-preserved : goal.loop-n-preserved
loop-n-preserved c = (
  omega arith,
  omega arith,
  λ at d. c.loop-n.invariant.2 at d ∙ skip_more false false c.args.text.now c.loop-n.n at d c.loop-n-test.true (space_step (get_or c.args.text.now c.loop-n.n 0) (sym c.is_space.ensures ∙ c.if-is_space.true)),
)
