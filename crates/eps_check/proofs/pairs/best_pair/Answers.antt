use Rattle.eps_check.proofs.BestLemmas.{best_from, searched_next}
use Rattle.eps_check.proofs.pairs.best_pair.Goals as goal

pub loop-p-preserved : goal.loop-p-preserved
loop-p-preserved c = searched_next c.args.items.now c.args.spans.now c.loop-p.p c.loop-p.found _ c.loop-p.invariant c.best_beside-found.ensures

pub returns : goal.returns
returns c = best_from c.args.items.now c.args.spans.now c.loop-p.p c.loop-p.found c.loop-p-test.false c.loop-p.invariant
