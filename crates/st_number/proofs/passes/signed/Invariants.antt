use Rattle.std.proofs.Common.{◌≡◌, map, take, pos}
use Rattle.st_number.proofs.passes.signed.Given as goal

abbrev pub invariant-loop-k : goal.invariant-loop-k
invariant-loop-k g l = l.list ≡ map (λ n. pos n) (take l.k l.sums)
