use Rattle.eps_check.proofs.VerdictLemmas.{one_verdict}
use Rattle.eps_check.proofs.laws.one_verdict.Goals as goal

pub returns : goal.returns
returns c = one_verdict
