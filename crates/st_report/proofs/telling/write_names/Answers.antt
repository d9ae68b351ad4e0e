use Rattle.std.proofs.Common.{◌≡◌, ◌<◌, ◌≤◌, length, get_or, take, pos, zero, arith, rules, w64, FitsSigned}
use Rattle.std.proofs.lemmas.Int.{to_z-of_z}
use Rattle.std.proofs.lemmas.List.{take_all}
use Rattle.std.proofs.lemmas.Result.{err_from_is_err_and}
use Rattle.st_port.proofs.Public.{Writes-none, Writes-after}
use Rattle.st_report.proofs.LineLemmas.{Writes-name, Writes-names}
use Rattle.st_report.proofs.telling.write_names.Goals as goal

pub loop-i-init : goal.loop-i-init
loop-i-init g c = Writes-none _

pub returns-in_err-write_number : goal.returns-in_err-write_number
returns-in_err-write_number g c =
    let p = err_from_is_err_and c.from_residual.result c.from_residual.ensures.1 in
    let there : c.loop-i.i < length c.args.names.now = omega arith in
    let fit : FitsSigned w64 (get_or c.args.names.now c.loop-i.i (pos zero)) = search rules in
    let name = rw (to_z-of_z w64 (get_or c.args.names.now c.loop-i.i (pos zero)) fit) at c.in_err-write_number.ensures in
    rw p.1 (Writes-names _ _ _ c.args.names.now _ (Writes-name _ _ _ _ _ c.args.names.now c.loop-i.i (pos zero) there c.loop-i.invariant name))

pub loop-i-preserved : goal.loop-i-preserved
loop-i-preserved g c =
    let there : c.loop-i.i < length c.args.names.now = omega arith in
    let fit : FitsSigned w64 (get_or c.args.names.now c.loop-i.i (pos zero)) = search rules in
    let name = rw (to_z-of_z w64 (get_or c.args.names.now c.loop-i.i (pos zero)) fit) at c.in_ok-write_number.ensures in
    Writes-name _ _ _ _ _ c.args.names.now c.loop-i.i (pos zero) there c.loop-i.invariant name

pub returns : goal.returns
returns g c =
    let ended : length c.args.names.now ≤ c.loop-i.i = omega arith in
    let all : take c.loop-i.i c.args.names.now ≡ c.args.names.now = take_all c.loop-i.i c.args.names.now ended in
    let names = rw all at c.loop-i.invariant in
    Writes-after _ _ _ _ _ _ _ names c.write_all.ensures.writes
