use Rattle.st_number.proofs.LeastLemmas.{least_law}
use Rattle.st_number.proofs.laws.least_heights.Goals as goal

pub returns : goal.returns
returns c = least_law
