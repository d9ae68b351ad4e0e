use Rattle.st_picture.proofs.FigureLemmas.{figures_law}
use Rattle.st_picture.proofs.laws.figures.Goals as goal

pub returns : goal.returns
returns c = figures_law
