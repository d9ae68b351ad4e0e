use Rattle.st_picture.proofs.BarLemmas.{bars_law}
use Rattle.st_picture.proofs.laws.bars_and_lines.Goals as goal

pub returns : goal.returns
returns c = bars_law
