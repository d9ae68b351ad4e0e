use Rattle.st_session.proofs.RemovalLemmas.{removal_law}
use Rattle.st_session.proofs.laws.removal.Goals as goal

pub returns : goal.returns
returns c = removal_law c.remove.ensures
