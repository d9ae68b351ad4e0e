use Rattle.st_port.proofs.Public.{Writes-kept}
use Rattle.st_report.proofs.telling.tell.Goals as goal

pub returns-clause-writes : goal.returns-clause-writes
returns-clause-writes g c = Writes-kept _ _ _ _ _ _ c.in_ok-write_stop.ensures c.flush.ensures.same c.flush.ensures.count c.flush.ensures.cause
