use Rattle.std.proofs.Common.{sym, subst}
use Rattle.draw_dom.specs.Points.{CompareAsBoth}
use Rattle.draw_dom.proofs.AlongLemmas.{compare}
use Rattle.draw_dom.proofs.compaction.compact.Goals as goal

pub returns-in-Ok-clause-law : goal.returns-in-Ok-clause-law
returns-in-Ok-clause-law c = subst (CompareAsBoth c.args.labels.now.x c.args.labels.now.y) (sym c.of.ensures) (compare c.args.labels.now.x c.args.labels.now.y c.in-Ok.points.items c.in-Ok.ensures)
