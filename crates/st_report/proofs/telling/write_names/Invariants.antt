use Rattle.std.proofs.Common.{take, Ok}
use Rattle.st_port.specs.declared.port.Failed.{Failed}
use Rattle.st_port.specs.Writes.{Writes}
use Rattle.st_report.specs.Lines.{spaced}
use Rattle.st_report.proofs.telling.write_names.Given as goal

-- the names before i are written, each behind a space
abbrev pub invariant-loop-i : goal.invariant-loop-i
invariant-loop-i g l = Writes {E = Failed} (g.D.Sink.state l.initial.diag) (g.D.Sink.state l.diag) (Ok tt) (spaced (take l.i l.names))
