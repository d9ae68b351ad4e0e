use Rattle.st_reduce.proofs.SplitLemmas.{split_planar}
use Rattle.st_reduce.proofs.laws.split.Goals as goal

pub returns : goal.returns
returns c = split_planar
