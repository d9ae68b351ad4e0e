use Rattle.gml_core.proofs.GoesOn.{none_with, none_ends}
use Rattle.gml_core.proofs.laws.none_goes_on.Goals as goal

pub returns-clause-token : goal.returns-clause-token
returns-clause-token c = none_with

pub returns-clause-end : goal.returns-clause-end
returns-clause-end c = none_ends
