use Rattle.std.proofs.Common.{◌≤◌, drop, length}
use Rattle.st_input.specs.Orders.{Filled, ins_from}
use Rattle.st_input.proofs.orders.fill_ins.Given as goal

abbrev pub invariant-loop-i : goal.invariant-loop-i
invariant-loop-i l = (l.i ≤ length l.ends) × Filled l.free l.fn.orders l.orders (ins_from l.i (drop l.i l.ends))

abbrev pub decreases-loop-i : goal.decreases-loop-i
decreases-loop-i l = l.i
