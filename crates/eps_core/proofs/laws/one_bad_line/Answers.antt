use Rattle.eps_core.proofs.FirstBad.{one_bad_line}
use Rattle.eps_core.proofs.laws.one_bad_line.Goals as goal

pub returns : goal.returns
returns c = one_bad_line
