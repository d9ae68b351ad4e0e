use Rattle.st_input.proofs.RepeatLemmas.{first_same_edge_id}
use Rattle.st_input.proofs.laws.first_same_edge_id.Goals as goal

pub returns : goal.returns
returns c = first_same_edge_id
