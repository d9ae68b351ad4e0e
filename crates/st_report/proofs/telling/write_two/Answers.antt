use Rattle.std.proofs.lemmas.Result.{err_from_is_err_and}
use Rattle.st_port.proofs.Public.{Writes-after, Writes-longer}
use Rattle.st_report.proofs.telling.write_two.Goals as goal

pub returns-in_err-write_all : goal.returns-in_err-write_all
returns-in_err-write_all g c =
    let p = err_from_is_err_and c.from_residual.result c.from_residual.ensures.1 in
    rw p.1 (Writes-longer _ _ _ _ _ c.in_err-write_all.ensures.writes)

pub returns : goal.returns
returns g c = Writes-after _ _ _ _ _ _ _ c.in_ok-write_all.ensures.writes c.write_all-2.ensures.writes
