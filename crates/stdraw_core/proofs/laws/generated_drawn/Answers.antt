use Rattle.stdraw_core.proofs.JoinedLemmas.{generated_drawn}
use Rattle.stdraw_core.proofs.laws.generated_drawn.Goals as goal

pub returns : goal.returns
returns c = generated_drawn c.accepted.ensures c.reads_back.ensures
