use Rattle.gml_core.proofs.Partial.{goes_on}
use Rattle.gml_core.proofs.laws.some_goes_on.Goals as goal

pub returns : goal.returns
returns c = goes_on
