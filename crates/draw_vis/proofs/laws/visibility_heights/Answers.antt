use Rattle.draw_vis.proofs.HeightLemmas.{visibility_heights}
use Rattle.draw_vis.proofs.laws.visibility_heights.Goals as goal

pub returns : goal.returns
returns c = visibility_heights
