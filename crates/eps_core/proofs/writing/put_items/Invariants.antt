use Rattle.std.proofs.Common.{take, Ok}
use Rattle.st_port.specs.declared.port.Failed.{Failed}
use Rattle.st_port.specs.Writes.{Queues}
use Rattle.eps_core.specs.Text.{item_lines, ended}
use Rattle.eps_core.proofs.writing.put_items.Given as goal

abbrev pub invariant-loop-item : goal.invariant-loop-item
invariant-loop-item g l =
    Queues {E = Failed} (g.K.Sink.state l.initial.sink) (g.K.Sink.state l.sink) l.initial.out l.out (Ok tt) (ended (item_lines (take l.item-index l.items)))
