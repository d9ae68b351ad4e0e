use Rattle.std.proofs.Common.{[], refl}
use Rattle.gml_core.specs.Readers.{LeadUp}
use Rattle.gml_core.proofs.Resuming.{starts}
use Rattle.gml_core.proofs.readers.TokenReader.new.Goals as goal

pub returns : goal.returns
returns c = rw c.new.ensures.items (starts (LeadUp []) (λ b. refl))
