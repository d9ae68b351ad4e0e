use Rattle.st_bipolar.proofs.KeptLemmas.{lists_kept}
use Rattle.st_bipolar.proofs.laws.lists_kept.Goals as goal

pub returns : goal.returns
returns c = lists_kept
