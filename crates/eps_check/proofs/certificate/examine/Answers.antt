use Rattle.st_shape.proofs.Public.{picture_on_grid}
use Rattle.eps_check.proofs.VerdictLemmas.{one_verdict}
use Rattle.eps_check.proofs.certificate.examine.Goals as goal

pub returns-then-right-clause-exact : goal.returns-then-right-clause-exact
returns-then-right-clause-exact c = λ fault w.
    absurd (one_verdict.none c.args.picture.now fault c.items-items.ensures.rules (c.in_ok-right.ensures c.if-right.true) w)

pub first_fault-requires-clause-grid : goal.first_fault-requires-clause-grid
first_fault-requires-clause-grid c = picture_on_grid c.args.picture.now _ c.items-items.ensures.same c.items-items.ensures.rules

pub first_fault-requires-in-Constrained-clause-grid : goal.first_fault-requires-in-Constrained-clause-grid
first_fault-requires-in-Constrained-clause-grid c = picture_on_grid c.args.picture.now _ c.items-items.ensures.same c.items-items.ensures.rules

pub first_fault-requires-in-Polyline-clause-grid : goal.first_fault-requires-in-Polyline-clause-grid
first_fault-requires-in-Polyline-clause-grid c = picture_on_grid c.args.picture.now _ c.items-items.ensures.same c.items-items.ensures.rules

pub first_fault-requires-in-Dominance-clause-grid : goal.first_fault-requires-in-Dominance-clause-grid
first_fault-requires-in-Dominance-clause-grid c = picture_on_grid c.args.picture.now _ c.items-items.ensures.same c.items-items.ensures.rules
