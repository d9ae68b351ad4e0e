use Rattle.std.proofs.Common.{arith}
use Rattle.gml_core.specs.Views.{view}
use Rattle.st_input.proofs.Public.{fits_together}
use Rattle.st_verdict.proofs.file.graph_of.Goals as goal

pub returns-in-Ok-clause-consistent : goal.returns-in-Ok-clause-consistent
returns-in-Ok-clause-consistent c = fits_together (view c.args.tree.now) _ _ c.in-Ok.graph (omega arith) (omega arith) c.in-Ok.ensures.none c.in-Ok.ensures.value
