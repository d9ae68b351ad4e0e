use Rattle.st_input.proofs.LawLemmas.{within_limits}
use Rattle.st_input.proofs.laws.limits_hold.Goals as goal

pub returns : goal.returns
returns c = within_limits
