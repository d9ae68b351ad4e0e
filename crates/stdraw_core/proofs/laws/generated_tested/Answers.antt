use Rattle.stdraw_core.proofs.JoinedLemmas.{generated_tested}
use Rattle.stdraw_core.proofs.laws.generated_tested.Goals as goal

pub returns : goal.returns
returns c = generated_tested c.accepted.ensures c.reads_back.ensures
