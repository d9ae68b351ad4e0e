use Rattle.draw_poly.proofs.SameLemmas.{pictures_law}
use Rattle.draw_poly.proofs.laws.one_picture.Goals as goal

pub returns : goal.returns
returns c = pictures_law
