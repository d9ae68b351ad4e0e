use Rattle.eps_check.specs.Pairs.{IsSearched}
use Rattle.eps_check.proofs.pairs.best_pair.Given as goal

abbrev pub invariant-loop-p : goal.invariant-loop-p
invariant-loop-p l = IsSearched l.items l.spans l.p l.found
