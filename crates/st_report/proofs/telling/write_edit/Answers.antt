use Rattle.std.proofs.lemmas.Result.{err_from_is_err_and}
use Rattle.st_port.proofs.Public.{Writes-after, Writes-longer}
use Rattle.st_report.proofs.telling.write_edit.Goals as goal

pub returns-in_err-write_number : goal.returns-in_err-write_number
returns-in_err-write_number g c =
    let p = err_from_is_err_and c.from_residual.result c.from_residual.ensures.1 in
    rw p.1 (Writes-longer _ _ _ _ _ c.in_err-write_number.ensures)

pub returns : goal.returns
returns g c = Writes-after _ _ _ _ _ _ _ c.in_ok-write_number.ensures c.write_bad_edit.ensures
