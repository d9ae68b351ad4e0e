use Rattle.st_number.proofs.GreatestLemmas.{heights_law}
use Rattle.st_number.proofs.laws.heights.Goals as goal

pub returns : goal.returns
returns c = heights_law c.args.sides.now c.local.ensures
