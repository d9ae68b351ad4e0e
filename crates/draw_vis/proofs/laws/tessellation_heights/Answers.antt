use Rattle.draw_vis.proofs.HeightLemmas.{tessellation_heights}
use Rattle.draw_vis.proofs.laws.tessellation_heights.Goals as goal

pub returns : goal.returns
returns c = tessellation_heights
