use Rattle.std.proofs.Common.{arith, rules}
use Rattle.std.proofs.lemmas.Result.{err_from_is_err_and}
use Rattle.st_port.proofs.PieceLemmas.{Gains-more, Writes-stopped}
use Rattle.st_port.proofs.whole.write_all.Goals as goal

pub loop-at-preserved : goal.loop-at-preserved
loop-at-preserved g c = (
  omega (arith, c.in_ok-at.ensures.bound),
  Gains-more _ _ _ _ _ _ c.loop-at.invariant.1 c.in_ok-at.ensures.ok,
  search rules,
)

pub returns-in_err-at : goal.returns-in_err-at
returns-in_err-at g c =
    let p = err_from_is_err_and c.from_residual.result c.from_residual.ensures.1 in
    let e = c.in_err-at.ensures in
    rw p.1 (record { writes = Writes-stopped _ _ _ _ _ _ c.loop-at.invariant.1 c.loop-at.invariant.2 e.err e.count e.cause })
