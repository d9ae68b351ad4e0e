use Rattle.gml_core.proofs.Unique.{one_tree, one_first, not_both}
use Rattle.gml_core.proofs.Total.{answer}
use Rattle.gml_core.proofs.laws.one_answer.Goals as goal

pub returns-clause-tree : goal.returns-clause-tree
returns-clause-tree c = one_tree

pub returns-clause-fault : goal.returns-clause-fault
returns-clause-fault c = one_first

pub returns-clause-apart : goal.returns-clause-apart
returns-clause-apart c = not_both

pub returns-clause-some : goal.returns-clause-some
returns-clause-some c = answer
