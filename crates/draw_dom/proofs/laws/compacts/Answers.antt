use Rattle.draw_dom.proofs.CompactLemmas.{compact_law}
use Rattle.draw_dom.proofs.laws.compacts.Goals as goal

pub returns : goal.returns
returns c = compact_law
