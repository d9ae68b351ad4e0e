use Rattle.st_verdict.proofs.VerdictOne.{accepted_one}
use Rattle.st_verdict.proofs.laws.one_verdict.Goals as goal

pub returns : goal.returns
returns c = accepted_one c.one_poles_answer.ensures
