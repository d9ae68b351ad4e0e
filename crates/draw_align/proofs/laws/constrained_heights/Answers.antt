use Rattle.draw_align.proofs.HeightLemmas.{constrained_heights}
use Rattle.draw_align.proofs.laws.constrained_heights.Goals as goal

pub returns : goal.returns
returns c = constrained_heights
