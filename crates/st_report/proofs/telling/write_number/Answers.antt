use Rattle.std.proofs.Common.{◌≡◌, ◌∙◌}
use Rattle.std.proofs.lemmas.Result.{err_from_is_err_and}
use Rattle.st_port.proofs.Public.{Writes-after, Writes-longer}
use Rattle.st_report.proofs.telling.write_number.Goals as goal

pub returns-in_err-write_all : goal.returns-in_err-write_all
returns-in_err-write_all g c =
    let p = err_from_is_err_and c.from_residual.result c.from_residual.ensures.1 in
    rw p.1 (Writes-longer _ _ _ _ _ c.in_err-write_all.ensures.writes)

pub returns : goal.returns
returns g c =
    let digits : c.as_bytes.result.now ≡ g.I.Integer.text c.args.n = c.as_bytes.ensures.value ∙ c.format-digits.ensures.text in
    Writes-after _ _ _ _ _ _ _ c.in_ok-write_all.ensures.writes (rw (← digits) c.write_two.ensures)
