use Rattle.std.proofs.Common.{take}
use Rattle.st_input.specs.Orders.{Filled, outs_from}
use Rattle.st_input.proofs.orders.fill_outs.Given as goal

abbrev pub invariant-loop-i : goal.invariant-loop-i
invariant-loop-i l = Filled l.free l.fn.orders l.orders (outs_from 0 (take l.i l.ends))
