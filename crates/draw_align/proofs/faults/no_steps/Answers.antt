use Rattle.std.proofs.Common.{◌∙◌, ap, None, replicate}
use Rattle.draw_align.proofs.StepLemmas.{no_steps}
use Rattle.draw_align.proofs.faults.no_steps.Goals as goal

pub returns : goal.returns
returns c = no_steps c.args.sides.now c.args.paths.now c.in_ok-steps.steps (c.in_ok-steps.ensures ∙ ap (λ z. replicate z None) c.edges.ensures.value)
