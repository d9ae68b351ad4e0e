use Rattle.st_callers.proofs.ReachingLemmas.{walks_each}
use Rattle.st_callers.proofs.reaching.reached.Goals as goal

pub returns-clause-each : goal.returns-clause-each
returns-clause-each c =
    walks_each _ _ _ _ c.in_ok-sides.sides c.in_ok-sides.ensures c.in_ok-labels.labels c.in_ok-labels.ensures.reaching
    c.args.pairs.now c.requires c.compared.result (λ answers. answers.items) c.compared.ensures.size c.compared.ensures.each
