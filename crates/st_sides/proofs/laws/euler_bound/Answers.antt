use Rattle.st_sides.proofs.BoundLemmas.{euler_bound_law}
use Rattle.st_sides.proofs.laws.euler_bound.Goals as goal

pub returns : goal.returns
returns c = euler_bound_law
