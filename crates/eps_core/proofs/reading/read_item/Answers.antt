use Rattle.std.proofs.Common.{◌≡◌, false, rules}
use Rattle.eps_core.proofs.Cuts.{not_so}
use Rattle.eps_core.proofs.Names.{none_marked, unmarked}
use Rattle.eps_core.proofs.reading.read_item.Goals as goal
use Rattle.eps_core.proofs.reading.read_item.Goals.{in-Ok, in-Err}

pub returns-then-not-fitting_mark-clause-second : goal.returns-then-not-fitting_mark-clause-second
returns-then-not-fitting_mark-clause-second c = λ _.
    let f : c.fitting_mark.result ≡ false = search rules in
    let n = c.in-Ok-named_item.ensures.name in
    none_marked c.args.frame c.args.name.now _ c.args.rest.now _ _ c.requires n.0 c.in-Ok-named_item.ensures.item n.1
    c.in-Some.ensures.ended c.in-Some.ensures.plain (λ w. not_so c.fitting_mark.result f (c.fitting_mark.ensures.1 w))

pub returns-after-named_item-clause-second : goal.returns-after-named_item-clause-second
returns-after-named_item-clause-second c =
    elim c.match-named_item.branch [
      | in-Ok w ↦ rw w.result-is (λ _. unmarked c.args.frame c.args.name.now c.args.rest.now _ w.in-Ok.ensures.name.0 w.in-Ok.ensures.name.1 c.in-None.ensures.none)
      | in-Err w ↦ rw w.result-is (λ e. absurd (w.in-Err.ensures.not_second e))
    ]
