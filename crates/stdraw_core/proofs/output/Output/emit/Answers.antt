use Rattle.st_port.proofs.Public.{Writes-kept}
use Rattle.stdraw_core.proofs.output.Output.emit.Goals as goal

pub returns-clause-writes : goal.returns-clause-writes
returns-clause-writes g c = Writes-kept _ _ _ _ _ _ c.in_ok-write.ensures.writes c.flush.ensures.same c.flush.ensures.count c.flush.ensures.cause
