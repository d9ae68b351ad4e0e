use Rattle.draw_align.proofs.PictureLemmas.{constrained_law}
use Rattle.draw_align.proofs.laws.constrained.Goals as goal

pub returns : goal.returns
returns c = constrained_law
