use Rattle.st_number.proofs.BoundLemmas.{to_sides}
use Rattle.st_number.proofs.laws.to_sides.Goals as goal

pub returns : goal.returns
returns c = to_sides
