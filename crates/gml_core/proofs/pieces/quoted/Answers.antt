use Rattle.std.proofs.Common.{◌+◌, refl, sym, ◌∙◌, arith}
use Rattle.gml_core.proofs.Looks.{quoted_goes, quoted_closes}
use Rattle.gml_core.proofs.pieces.quoted.Goals as goal

pub returns-in_ok-append-in-None : goal.returns-in_ok-append-in-None
returns-in_ok-append-in-None c = quoted_goes c.args.from c.args.at _ c.args.held c.args.rest.now c.append.new.self c.requires.placed c.requires.some (sym c.quote_at.ensures.value ∙ c.in-None.is) c.in_ok-append-in-None.ensures.ok refl

pub returns-in_ok-held-in-Some : goal.returns-in_ok-held-in-Some
returns-in_ok-held-in-Some c =
    (omega (arith, c.in-Some.ensures.within), quoted_closes c.args.from c.args.at c.in-Some.n (c.in-Some.n + 1) (c.args.at + c.in-Some.n + 1) c.args.held c.args.rest.now _ c.requires.placed (sym c.quote_at.ensures.value ∙ c.in-Some.is) refl refl c.in_ok-held-in-Some.ensures)
