use Rattle.st_shape.proofs.SearchLemmas.{picture_fits, picture_on_grid}
use Rattle.st_shape.proofs.verdict.clean.Goals as goal

pub first_fault-requires-clause-grid : goal.first_fault-requires-clause-grid
first_fault-requires-clause-grid c = picture_on_grid c.args.picture.now _ c.items-items.ensures.same c.items-items.ensures.rules

pub box_fault-requires-clause-fits : goal.box_fault-requires-clause-fits
box_fault-requires-clause-fits c = picture_fits c.args.picture.now _ _ c.frame.ensures c.items-items.ensures.same c.items-items.ensures.rules

pub first_fault-requires-in-Constrained-clause-grid : goal.first_fault-requires-in-Constrained-clause-grid
first_fault-requires-in-Constrained-clause-grid c = picture_on_grid c.args.picture.now _ c.items-items.ensures.same c.items-items.ensures.rules

pub first_fault-requires-in-Polyline-clause-grid : goal.first_fault-requires-in-Polyline-clause-grid
first_fault-requires-in-Polyline-clause-grid c = picture_on_grid c.args.picture.now _ c.items-items.ensures.same c.items-items.ensures.rules

pub first_fault-requires-in-Dominance-clause-grid : goal.first_fault-requires-in-Dominance-clause-grid
first_fault-requires-in-Dominance-clause-grid c = picture_on_grid c.args.picture.now _ c.items-items.ensures.same c.items-items.ensures.rules
