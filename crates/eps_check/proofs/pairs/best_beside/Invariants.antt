use Rattle.eps_check.specs.Pairs.{IsBetterBeside}
use Rattle.eps_check.proofs.pairs.best_beside.Given as goal

abbrev pub invariant-loop-q : goal.invariant-loop-q
invariant-loop-q l = IsBetterBeside l.items l.spans l.p l.q l.initial.found l.found
