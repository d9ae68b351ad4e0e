use Rattle.st_input.proofs.LawLemmas.{default_lengths}
use Rattle.st_input.proofs.laws.lengths_default.Goals as goal

pub returns : goal.returns
returns c = default_lengths
