use Rattle.stdraw_core.proofs.RunLemmas.{cut, done, stopped}
use Rattle.stdraw_core.proofs.top.perform.Goals as goal

pub returns-clause-ending : goal.returns-clause-ending
returns-clause-ending g c = rw c.report-in-Err.ensures.status (stopped _ _ _ _ _ _ c.in-Err.stop c.in-Err.ensures.decides c.report-in-Err.ensures.line)

pub returns-in-Ok-clause-ending : goal.returns-in-Ok-clause-ending
returns-in-Ok-clause-ending g c = rw c.report.ensures.status (cut _ _ _ _ _ _ _ _ c.in-Ok.ensures.decides c.in-Err-emit.ensures.writes.front c.in-Err-emit.ensures.writes.cause c.report.ensures.line)

pub returns-in-Ok-emit-clause-ending : goal.returns-in-Ok-emit-clause-ending
returns-in-Ok-emit-clause-ending g c = done _ _ _ _ _ _ _ c.in-Ok.ensures.decides c.in-Ok-emit.ensures.writes.whole c.in-Ok-emit.ensures.flushed
