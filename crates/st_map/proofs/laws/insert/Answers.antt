use Rattle.st_map.proofs.InsertLemmas.{insert_law}
use Rattle.st_map.proofs.laws.insert.Goals as goal

pub returns : goal.returns
returns c = insert_law
