use Rattle.std.proofs.Common.{◌≡◌, false, rules}
use Rattle.eps_core.proofs.Cuts.{not_so}
use Rattle.eps_core.proofs.Names.{no_first, bad_first}
use Rattle.eps_core.proofs.reading.next_item.Goals as goal

pub returns-in-None-clause-first : goal.returns-in-None-clause-first
returns-in-None-clause-first c = λ _. no_first c.args.rest.now c.in-None.ensures.none

pub returns-in-Err-clause-first : goal.returns-in-Err-clause-first
returns-in-Err-clause-first c = λ is.
    let f : c.is_last.result ≡ false = search rules in
    bad_first c.args.rest.now _ _ c.in-Some.ensures.ended c.in-Some.ensures.plain (λ e. not_so c.is_last.result f (c.is_last.ensures.1 e)) (c.in-Err.ensures.first is)
