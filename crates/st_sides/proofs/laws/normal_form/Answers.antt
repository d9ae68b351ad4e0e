use Rattle.st_sides.proofs.NormalLemmas.{normal_law}
use Rattle.st_sides.proofs.laws.normal_form.Goals as goal

pub returns : goal.returns
returns c = normal_law
