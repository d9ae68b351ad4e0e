use Rattle.st_report.proofs.LineLemmas.{tells}
use Rattle.st_report.proofs.telling.report.Goals as goal

pub returns-clause-line : goal.returns-clause-line
returns-clause-line g c = tells _ _ _ _ c.tell.ensures.writes c.tell.ensures.flushed
