use Rattle.st_gen.proofs.AcceptedLemmas.{accepted}
use Rattle.st_gen.proofs.laws.accepted.Goals as goal

pub returns : goal.returns
returns c = accepted c.one_poles_answer.ensures
