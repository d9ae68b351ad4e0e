use Rattle.draw_vis.proofs.TileLemmas.{tessellation_drawn}
use Rattle.draw_vis.proofs.laws.tessellation.Goals as goal

pub returns : goal.returns
returns c = tessellation_drawn
