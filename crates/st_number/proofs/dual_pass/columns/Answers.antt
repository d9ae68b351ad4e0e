use Rattle.std.proofs.Common.{◌≤◌, get_or, arith}
use Rattle.st_number.proofs.FillLemmas.{column_most, columns_of}
use Rattle.st_number.proofs.dual_pass.columns.Goals as goal

pub signed-requires-clause-room : goal.signed-requires-clause-room
signed-requires-clause-room c = omega (arith, c.in_ok-table.ensures.size, c.in_ok-table.ensures.room)

pub signed-requires-clause-few : goal.signed-requires-clause-few
signed-requires-clause-few c k l =
    let f : k ≤ c.args.sides.now.t_star = omega (arith, l, c.in_ok-table.ensures.size) in
    let m : get_or c.in_ok-table.table k 0 ≤ c.args.sides.now.t_star = column_most c.args.sides.now c.local.ensures k (get_or c.in_ok-table.table k 0) (c.in_ok-table.ensures.each k f) in
    omega (arith, m, c.in_ok-table.ensures.room)

pub returns : goal.returns
returns c = columns_of c.args.sides.now c.local.ensures c.in_ok-table.table c.in_ok-columns.columns c.in_ok-table.ensures c.in_ok-columns.ensures
