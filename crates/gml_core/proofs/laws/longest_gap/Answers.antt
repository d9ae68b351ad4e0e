use Rattle.gml_core.proofs.Gaps.{gap_is, gap_longest}
use Rattle.gml_core.proofs.laws.longest_gap.Goals as goal

pub returns-clause-gap : goal.returns-clause-gap
returns-clause-gap c = gap_is

pub returns-clause-longest : goal.returns-clause-longest
returns-clause-longest c = gap_longest
