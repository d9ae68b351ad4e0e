use Rattle.st_map.proofs.SplitLemmas.{split_law}
use Rattle.st_map.proofs.laws.split.Goals as goal

pub returns : goal.returns
returns c = split_law
