use Rattle.draw_vis.proofs.SameLemmas.{pictures_law}
use Rattle.draw_vis.proofs.laws.one_picture.Goals as goal

pub returns : goal.returns
returns c = pictures_law
