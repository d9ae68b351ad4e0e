use Rattle.st_session.proofs.InsertionLemmas.{insertion_law}
use Rattle.st_session.proofs.laws.insertion.Goals as goal

pub returns : goal.returns
returns c = insertion_law c.insert.ensures
