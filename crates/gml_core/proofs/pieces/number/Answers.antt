use Rattle.std.proofs.Common.{◌+◌, refl, sym, ap, ◌∙◌, arith}
use Rattle.gml_core.specs.Bytes.{number_kind}
use Rattle.gml_core.proofs.Looks.{number_goes, number_closes, number_fails}
use Rattle.gml_core.proofs.pieces.number.Goals as goal

pub returns-then-n-rest : goal.returns-then-n-rest
returns-then-n-rest c = number_goes c.args.from c.args.at c.run_len-n.result c.args.held c.args.rest.now c.append.new.self c.requires.placed c.requires.some (sym c.run_len-n.ensures.value ∙ c.if-n-rest.true) c.in_ok-append.ensures.ok c.if-n-rest.true

pub returns-in-Some : goal.returns-in-Some
returns-in-Some c = (
  c.run_len-n.ensures.within,
  number_closes c.args.from c.args.at c.run_len-n.result (c.args.at + c.run_len-n.result) c.args.held c.args.rest.now _ c.in-Some.kind c.requires.placed (omega (arith, c.run_len-n.ensures.value, c.run_len-n.ensures.within, c.if-n-rest.false)) c.run_len-n.ensures.value refl c.in_ok-held.ensures
      (ap number_kind (sym c.text_of.ensures) ∙ sym c.number_kind.ensures.value ∙ c.in-Some.is) c.in-Some.ensures.kind,
)

pub returns-in-None : goal.returns-in-None
returns-in-None c =
    number_fails c.args.from c.args.at _ c.run_len-n.result c.args.held c.args.rest.now _ c.requires.some (omega (arith, c.run_len-n.ensures.value, c.run_len-n.ensures.within, c.if-n-rest.false)) c.run_len-n.ensures.value c.in_ok-held.ensures
    (ap number_kind (sym c.text_of.ensures) ∙ sym c.number_kind.ensures.value ∙ c.in-None.is) refl
