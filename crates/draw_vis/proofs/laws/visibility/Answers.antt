use Rattle.draw_vis.proofs.NumberLemmas.{visibility_drawn}
use Rattle.draw_vis.proofs.laws.visibility.Goals as goal

pub returns : goal.returns
returns c = visibility_drawn
