use Rattle.st_map.proofs.RemoveLemmas.{remove_law}
use Rattle.st_map.proofs.laws.remove.Goals as goal

pub returns : goal.returns
returns c = remove_law
