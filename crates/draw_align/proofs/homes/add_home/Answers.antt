use Rattle.std.proofs.Common.{◌+◌, sym, subst, ◌∙◌}
use Rattle.draw_align.specs.Homes.{IsHoming}
use Rattle.draw_align.proofs.HomeLemmas.{homing_listed, homing_alone}
use Rattle.draw_align.proofs.homes.add_home.Goals as goal

pub returns-in_ok-push-in-Some : goal.returns-in_ok-push-in-Some
returns-in_ok-push-in-Some c =
    subst (λ z. IsHoming c.args.sides.now c.args.paths.now (c.args.e + 1) z c.args.homes.now.count) (sym c.in_ok-push-in-Some.ensures.ok)
    (homing_listed c.args.sides.now c.args.paths.now c.requires.sound c.args.steps.now c.requires.steps c.args.e c.args.homes.now.count c.args.homes.now.table c.requires.homing c.in-Some.step (sym c.step_of.ensures ∙ c.in-Some.is))

pub returns-in_ok-push-in-None : goal.returns-in_ok-push-in-None
returns-in_ok-push-in-None c =
    subst (λ z. IsHoming c.args.sides.now c.args.paths.now (c.args.e + 1) z (c.args.homes.now.count + 1)) (sym c.in_ok-push-in-None.ensures.ok)
    (homing_alone c.args.sides.now c.args.paths.now c.requires.sound c.args.steps.now c.requires.steps c.args.e c.args.homes.now.count c.args.homes.now.table c.requires.homing (sym c.step_of.ensures ∙ c.in-None.is))
