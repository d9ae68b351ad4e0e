use Rattle.draw_dom.proofs.DominanceLemmas.{compact_dominance_law}
use Rattle.draw_dom.proofs.laws.points.Goals as goal

pub returns : goal.returns
returns c = compact_dominance_law
