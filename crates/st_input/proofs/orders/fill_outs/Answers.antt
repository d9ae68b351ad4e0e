use Rattle.std.proofs.Common.{[], ◌+◌, ◌<◌, take, length, arith}
use Rattle.st_input.specs.Orders.{outs_from}
use Rattle.st_input.proofs.Fills.{filled_first, filled_more, outs_none, outs_more}
use Rattle.st_input.proofs.orders.fill_outs.Goals as goal

pub loop-i-init : goal.loop-i-init
loop-i-init c = filled_first c.args.free.now c.args.orders.now (outs_from 0 []) c.requires.size outs_none

pub loop-i-preserved : goal.loop-i-preserved
loop-i-preserved c =
    let lt : c.loop-i.i < length c.args.ends.now = omega arith in
    filled_more c.args.free.now c.args.orders.now c.loop-i.orders c.put_free.new.orders (outs_from 0 (take c.loop-i.i c.args.ends.now)) (outs_from 0 (take (c.loop-i.i + 1) c.args.ends.now)) _ _ c.loop-i.invariant c.in_ok-put_free.ensures.size c.in_ok-put_free.ensures.lists (outs_more c.args.ends.now c.loop-i.i _ lt)
