use Rattle.st_number.proofs.BoundLemmas.{bounds_law}
use Rattle.st_number.proofs.laws.bounds.Goals as goal

pub returns : goal.returns
returns c = bounds_law c.args.sides.now c.local.ensures
