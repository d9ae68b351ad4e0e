use Rattle.st_gen.proofs.PlainLemmas.{plain_accepted}
use Rattle.st_gen.proofs.laws.plain_accepted.Goals as goal

pub returns : goal.returns
returns c = plain_accepted c.accepted.ensures
