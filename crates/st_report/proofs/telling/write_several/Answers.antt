use Rattle.std.proofs.Common.{w64, FitsSigned, rules}
use Rattle.std.proofs.lemmas.Int.{to_z-of_z}
use Rattle.std.proofs.lemmas.Result.{err_from_is_err_and}
use Rattle.st_port.proofs.Public.{Writes-after, Writes-longer}
use Rattle.st_report.proofs.telling.write_several.Goals as goal

pub returns-in_err-write_number : goal.returns-in_err-write_number
returns-in_err-write_number g c =
    let p = err_from_is_err_and c.from_residual.result c.from_residual.ensures.1 in
    rw p.1 (Writes-longer _ _ _ _ _ c.in_err-write_number.ensures)

pub returns : goal.returns
returns g c =
    let fit : FitsSigned w64 c.args.first = search rules in
    let fit' : FitsSigned w64 c.args.second = search rules in
    rw (to_z-of_z w64 c.args.first fit, to_z-of_z w64 c.args.second fit') at (Writes-after _ _ _ _ _ _ _ c.in_ok-write_number.ensures c.write_numbers.ensures)
