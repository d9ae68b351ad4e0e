use Rattle.gml_core.proofs.Unique.{one_list, one_faulty, not_both_cuts}
use Rattle.gml_core.proofs.Total.{cut}
use Rattle.gml_core.proofs.laws.one_cut.Goals as goal

pub returns-clause-tokens : goal.returns-clause-tokens
returns-clause-tokens c = one_list

pub returns-clause-fault : goal.returns-clause-fault
returns-clause-fault c = one_faulty

pub returns-clause-apart : goal.returns-clause-apart
returns-clause-apart c = not_both_cuts

pub returns-clause-some : goal.returns-clause-some
returns-clause-some c = cut
