use Rattle.std.proofs.Common.{◌≡◌, false, rules, sym, ◌∙◌}
use Rattle.eps_core.proofs.Cuts.{not_so}
use Rattle.eps_core.proofs.Names.{none_named, other_named}
use Rattle.eps_core.proofs.reading.named_item.Goals as goal

pub returns-in-Ok-None-clause-first : goal.returns-in-Ok-None-clause-first
returns-in-Ok-None-clause-first c = λ _. none_named c.args.name.now c.args.mark.now (sym c.in-Ok-None.ensures ∙ c.in-Ok-None.field-0-is)

pub returns-then-not-is_line-clause-first : goal.returns-then-not-is_line-clause-first
returns-then-not-is_line-clause-first c = λ _.
    let f : c.is_line.result ≡ false = search rules in
    other_named c.args.name.now c.args.mark.now c.in-Ok-Some.item (sym c.in-Ok-Some.ensures ∙ c.in-Ok-Some.field-0-is)
    (λ e. not_so c.is_line.result f (c.is_line.ensures.1 (e ∙ sym c.name_line.ensures.text)))
