use Rattle.std.proofs.Common.{sym}
use Rattle.std.proofs.lemmas.Result.{err_from_is_err_and}
use Rattle.st_port.proofs.Public.{Queues-after, Queues-longer}
use Rattle.eps_core.proofs.Grids.{all_fit_corner, text_parts, text_parts_first}
use Rattle.eps_core.proofs.writing.put_picture.Goals as goal

pub returns-in_err-put_lines : goal.returns-in_err-put_lines
returns-in_err-put_lines g c =
    let p = err_from_is_err_and c.from_residual.result c.from_residual.ensures.1 in
    let k = rw (c.front.ensures.text, c.form.ensures, c.frame.ensures) at c.in_err-put_lines.ensures in
    rw (p.1, sym (text_parts_first c.args.picture.now)) (Queues-longer _ _ _ _ _ _ _ k)

pub put_items-requires : goal.put_items-requires
put_items-requires g c = rw c.items-items.ensures.same (all_fit_corner _ _ c.items-items.ensures.rules.frame c.items-items.ensures.rules.items)

pub returns-in_err-put_items : goal.returns-in_err-put_items
returns-in_err-put_items g c =
    let p = err_from_is_err_and c.from_residual-in_err-put_items.result c.from_residual-in_err-put_items.ensures.1 in
    let k = rw (c.front.ensures.text, c.form.ensures, c.frame.ensures) at c.in_ok-put_lines.ensures in
    let i = rw c.items-items.ensures.same at c.in_err-put_items.ensures in
    rw (p.1, sym (text_parts c.args.picture.now)) (Queues-longer _ _ _ _ _ _ _ (Queues-after _ _ _ _ _ _ _ _ _ _ k i))

pub returns : goal.returns
returns g c =
    let k = rw (c.front.ensures.text, c.form.ensures, c.frame.ensures) at c.in_ok-put_lines.ensures in
    let i = rw c.items-items.ensures.same at c.in_ok-put_items.ensures in
    let e = rw c.last_line.ensures at c.put_lines-2.ensures in
    rw (sym (text_parts c.args.picture.now)) (Queues-after _ _ _ _ _ _ _ _ _ _ (Queues-after _ _ _ _ _ _ _ _ _ _ k i) e)
