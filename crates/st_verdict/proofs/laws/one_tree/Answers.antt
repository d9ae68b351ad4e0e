use Rattle.st_verdict.proofs.FileOne.{tree_one}
use Rattle.st_verdict.proofs.laws.one_tree.Goals as goal

pub returns : goal.returns
returns c = tree_one
