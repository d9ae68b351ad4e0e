use Rattle.std.proofs.Common.{subst}
use Rattle.eps_check.specs.Pairs.{IsBest}
use Rattle.eps_check.proofs.OverlapLemmas.{least_from}
use Rattle.eps_check.proofs.first.first_pair.Goals as goal

pub returns : goal.returns
returns c =
    least_from c.args.items.now c.in_ok-spans.spans.items c.requires.grid c.in_ok-spans.ensures.has c.best_pair.result
    (subst (λ s. IsBest c.args.items.now s c.best_pair.result) c.deref.ensures.value c.best_pair.ensures)
