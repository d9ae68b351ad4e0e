use Rattle.st_input.proofs.RepeatLemmas.{first_same_name}
use Rattle.st_input.proofs.laws.first_same_name.Goals as goal

pub returns : goal.returns
returns c = first_same_name
