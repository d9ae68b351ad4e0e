use Rattle.st_number.specs.Filling.{IsReaching}
use Rattle.st_number.proofs.dual_pass.column.Given as goal

abbrev pub invariant-loop-k : goal.invariant-loop-k
invariant-loop-k l = IsReaching l.sides l.columns l.fn.f.0 l.k l.greatest
