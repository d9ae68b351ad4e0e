use Rattle.gml_core.specs.Readers.{BuiltUp}
use Rattle.gml_core.proofs.SoFar.{read_begins}
use Rattle.gml_core.proofs.Resuming.{starts}
use Rattle.gml_core.proofs.readers.TreeReader.new.Goals as goal

pub returns : goal.returns
returns c = record { reads = starts (BuiltUp c.new.result) (λ bytes. read_begins bytes c.new.result c.new.ensures.stack c.new.ensures.pairs c.new.ensures.waits) }
