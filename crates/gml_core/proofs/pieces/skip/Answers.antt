use Rattle.std.proofs.Common.{sym, ◌∙◌, arith}
use Rattle.gml_core.proofs.Looks.{skip_more, skip_ends}
use Rattle.gml_core.proofs.pieces.skip.Goals as goal

pub loop-n-preserved : goal.loop-n-preserved
loop-n-preserved c = (omega arith, λ at d. c.loop-n.invariant.1 at d ∙ skip_more c.loop-n.open c.in-Some.now c.args.text.now c.loop-n.n at d c.loop-n-test.true (sym c.gap_step.ensures ∙ c.in-Some.is))

pub returns-in-None-clause-solid : goal.returns-in-None-clause-solid
returns-in-None-clause-solid c = λ lt at d. skip_ends c.loop-n.open c.args.text.now c.loop-n.n at d lt (sym c.gap_step.ensures ∙ c.in-None.is)
