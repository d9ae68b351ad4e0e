use Rattle.draw_align.proofs.SameLemmas.{picture_law}
use Rattle.draw_align.proofs.laws.one_picture.Goals as goal

pub returns : goal.returns
returns c = picture_law
