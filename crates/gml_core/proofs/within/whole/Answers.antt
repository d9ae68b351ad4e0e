use Rattle.std.proofs.Common.{refl, sym, ◌∙◌, arith}
use Rattle.gml_core.specs.declared.token.TokenKind.TheVariants as kinds
use Rattle.gml_core.proofs.Wholes.{whole_key, whole_number, whole_open, whole_close, wholly}
use Rattle.gml_core.proofs.within.whole.Goals as goal

pub returns-else-n-rest : goal.returns-else-n-rest
returns-else-n-rest c =
    wholly kinds.Key c.word_len-n.result c.args.rest.now c.word_len-n.ensures.within
    (λ at. whole_key at c.word_len-n.result c.args.rest.now c.requires.some c.requires.solid (sym c.first_of.ensures ∙ c.in-Letter.is) c.word_len-n.ensures.value (omega (arith, c.word_len-n.ensures.within, c.if-n-rest.false)))

pub returns-in-Some : goal.returns-in-Some
returns-in-Some c =
    wholly c.in-Some.kind c.run_len-n.result c.args.rest.now c.run_len-n.ensures.within
    (λ at. whole_number at c.run_len-n.result c.args.rest.now _ c.in-Some.kind c.requires.some c.requires.solid (sym c.first_of.ensures ∙ c.in-Digit.is) c.run_len-n.ensures.value (omega (arith, c.run_len-n.ensures.within, c.if-n-rest-2.false)) refl
    (sym c.number_kind.ensures.value ∙ c.in-Some.is) c.in-Some.ensures.kind)

pub returns-in-Open : goal.returns-in-Open
returns-in-Open c = wholly kinds.OpenList 1 c.args.rest.now (omega arith) (λ at. whole_open at c.args.rest.now c.requires.some c.requires.solid (sym c.first_of.ensures ∙ c.in-Open.is))

pub returns-in-Close : goal.returns-in-Close
returns-in-Close c = wholly kinds.CloseList 1 c.args.rest.now (omega arith) (λ at. whole_close at c.args.rest.now c.requires.some c.requires.solid (sym c.first_of.ensures ∙ c.in-Close.is))
