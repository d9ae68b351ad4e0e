use Rattle.std.proofs.Common.{sym}
use Rattle.std.proofs.lemmas.Result.{err_from_is_err_and}
use Rattle.st_port.proofs.Public.{Queues-after, Queues-longer}
use Rattle.eps_core.proofs.Grids.{items_more, items_whole}
use Rattle.eps_core.proofs.writing.put_items.Goals as goal

pub returns-in_err-put_item : goal.returns-in_err-put_item
returns-in_err-put_item g c =
    let p = err_from_is_err_and c.from_residual.result c.from_residual.ensures.1 in
    let e = sym (items_whole c.args.items.now c.loop-item.item-index c.item-item.result c.loop-item-test.true c.item-item.is) in
    rw (p.1, e) (Queues-longer _ _ _ _ _ _ _ (Queues-after _ _ _ _ _ _ _ _ _ _ c.loop-item.invariant c.in_err-put_item.ensures))

pub loop-item-preserved : goal.loop-item-preserved
loop-item-preserved g c =
    let e = sym (items_more c.args.items.now c.loop-item.item-index c.item-item.result c.loop-item-test.true c.item-item.is) in
    rw e (Queues-after _ _ _ _ _ _ _ _ _ _ c.loop-item.invariant c.in_ok-put_item.ensures)
