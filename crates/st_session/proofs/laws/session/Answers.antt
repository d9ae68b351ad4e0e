use Rattle.st_session.proofs.RunLemmas.{session_law}
use Rattle.st_session.proofs.laws.session.Goals as goal

pub returns : goal.returns
returns c = session_law c.split.ensures c.insertion.ensures c.removal.ensures
