use Rattle.std.proofs.Common.{◌≡◌, sym, ◌∙◌, arith}
use Rattle.draw_align.proofs.StepLemmas.{none_next, another_path, passes_on, next_there}
use Rattle.draw_align.proofs.steps.passing.Goals as goal

pub returns-in-None-next-clause-none : goal.returns-in-None-next-clause-none
returns-in-None-next-clause-none c = λ _ q y l P.
    none_next c.args.sides.now c.local.ensures c.args.paths.now c.requires.edges c.args.noted.now.count c.args.noted.now.table c.requires.noted
    c.args.e.0 c.in-Some.step (sym c.step_of.ensures ∙ c.in-Some.is) c.in-None-next.is q y (omega arith) P

pub returns-then-step-n-clause-some : goal.returns-then-step-n-clause-some
returns-then-step-n-clause-some c = (
  omega arith,
  passes_on c.args.sides.now c.local.ensures c.args.paths.now c.requires.edges c.args.noted.now.count c.args.noted.now.table c.requires.noted
      c.args.e.0 c.in-Some.step c.in-Some-next.next (sym c.step_of.ensures ∙ c.in-Some.is) c.in-Some-next.is,
)

pub returns-then-step-n-clause-there : goal.returns-then-step-n-clause-there
returns-then-step-n-clause-there c = next_there c.args.sides.now c.local.ensures c.args.paths.now c.requires.edges c.args.noted.now.count c.args.noted.now.table c.requires.noted
    c.args.e.0 c.in-Some.step c.in-Some-next.next (sym c.step_of.ensures ∙ c.in-Some.is) c.in-Some-next.is

pub returns-clause-none : goal.returns-clause-none
returns-clause-none c = λ _ q y l P.
    let same : q ≡ c.in-Some.step.path = another_path c.args.sides.now c.local.ensures c.args.paths.now c.requires.edges c.args.noted.now.count c.args.noted.now.table c.requires.noted
    c.args.e.0 c.in-Some.step (sym c.step_of.ensures ∙ c.in-Some.is) q y (omega arith) P in
    omega arith
