use Rattle.std.proofs.Common.{◌≡◌, ◌+◌, ◌-◌, ◌≤◌, drop, length, arith}
use Rattle.st_input.specs.Orders.{ins_from}
use Rattle.st_input.proofs.Fills.{filled_first, filled_more, ins_end, ins_before}
use Rattle.st_input.proofs.orders.fill_ins.Goals as goal

pub loop-i-init : goal.loop-i-init
loop-i-init c = (omega arith, filled_first c.args.free.now c.args.orders.now (ins_from (length c.args.ends.now) (drop (length c.args.ends.now) c.args.ends.now)) c.requires.size (ins_end c.args.ends.now))

pub loop-i-preserved : goal.loop-i-preserved
loop-i-preserved c =
    let le : c.loop-i.i ≤ length c.args.ends.now = c.loop-i.invariant.0 in
    let next : (c.loop-i.i - 1) + 1 ≡ c.loop-i.i = omega arith in
    (omega arith, filled_more c.args.free.now c.args.orders.now c.loop-i.orders c.put_free.new.orders (ins_from c.loop-i.i (drop c.loop-i.i c.args.ends.now)) (ins_from (c.loop-i.i - 1) (drop (c.loop-i.i - 1) c.args.ends.now)) _ _ c.loop-i.invariant.1 c.in_ok-put_free.ensures.size c.in_ok-put_free.ensures.lists (ins_before c.args.ends.now c.loop-i.i (c.loop-i.i - 1) _ next le))
