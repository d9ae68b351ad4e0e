use Rattle.draw_dom.proofs.PictureLemmas.{pictures_law}
use Rattle.draw_dom.proofs.laws.pictures.Goals as goal

pub returns : goal.returns
returns c = pictures_law
