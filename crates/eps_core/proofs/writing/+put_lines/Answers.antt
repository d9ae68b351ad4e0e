use Rattle.std.proofs.lemmas.Result.{err_from_is_err_and}
use Rattle.st_port.proofs.Public.{Queues-after, Queues-longer}
use Rattle.eps_core.proofs.Grids.{ended_split}
use Rattle.eps_core.proofs.writing.+put_lines.Goals as goal

pub returns-in_err-put_line-in-len1-up : goal.returns-in_err-put_line-in-len1-up
returns-in_err-put_line-in-len1-up g t c =
    let p = err_from_is_err_and c.from_residual.result c.from_residual.ensures.1 in
    let e = ended_split c.args.lines.now c.first-item.result c.in-len1-up.len_at_least c.first-item.is in
    let k = rw (c.start.ensures, c.bytes.ensures) at c.in_err-put_line-in-len1-up.ensures in
    rw (p.1, e) (Queues-longer _ _ _ _ _ _ _ k)

pub returns-in_ok-put_line-in-len1-up : goal.returns-in_ok-put_line-in-len1-up
returns-in_ok-put_line-in-len1-up g t c =
    let e = ended_split c.args.lines.now c.first-item.result c.in-len1-up.len_at_least c.first-item.is in
    let k = rw (c.start.ensures, c.bytes.ensures) at c.in_ok-put_line-in-len1-up.ensures in
    rw e (Queues-after _ _ _ _ _ _ _ _ _ _ k c.put_lines.ensures)
