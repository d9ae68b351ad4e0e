use Rattle.stdraw_core.proofs.DrawingLemmas.{answers_there}
use Rattle.stdraw_core.proofs.PathLemmas.{aligned_by, as_sides}
use Rattle.stdraw_core.proofs.paths.aligned_picture.Goals as goal

pub constrained-requires-clause-edges : goal.constrained-requires-clause-edges
constrained-requires-clause-edges g c = as_sides c.args.spec.now c.args.graph.now c.args.sides.now c.requires.found c.requires.sides.sides c.in-Ok.paths c.in-Ok.ensures.there

pub fault_stop-requires-clause-edges : goal.fault_stop-requires-clause-edges
fault_stop-requires-clause-edges g c = as_sides c.args.spec.now c.args.graph.now c.args.sides.now c.requires.found c.requires.sides.sides c.in-Ok.paths c.in-Ok.ensures.there

pub returns-in-Err-clause-refused : goal.returns-in-Err-clause-refused
returns-in-Err-clause-refused g c = c.name_stop.ensures c.args.graph.now

pub returns-in-Ok-constrained-clause-picture : goal.returns-in-Ok-constrained-clause-picture
returns-in-Ok-constrained-clause-picture g c =
    aligned_by _ c.args.spec.now c.args.sides.now c.in-Ok.paths c.in-Ok.ensures.paths c.in-Ok.ensures.known c.args.names.now c.in-Ok-constrained.picture
    (answers_there _ c.args.spec.now c.args.graph.now c.args.sides.now c.requires.tables c.requires.found c.requires.sides.sides c.requires.rows) c.in-Ok-constrained.ensures.sound c.in-Ok-constrained.ensures.picture
