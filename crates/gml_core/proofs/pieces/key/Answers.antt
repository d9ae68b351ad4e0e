use Rattle.std.proofs.Common.{◌+◌, refl, sym, ◌∙◌, arith}
use Rattle.gml_core.proofs.Looks.{key_goes, key_closes}
use Rattle.gml_core.proofs.pieces.key.Goals as goal

pub returns-then-n-rest : goal.returns-then-n-rest
returns-then-n-rest c = key_goes c.args.from c.args.at c.word_len-n.result c.args.held c.args.rest.now c.append.new.self c.requires.placed c.requires.some (sym c.word_len-n.ensures.value ∙ c.if-n-rest.true) c.in_ok-append.ensures.ok c.if-n-rest.true

pub returns : goal.returns
returns c =
    (c.word_len-n.ensures.within, key_closes c.args.from c.args.at c.word_len-n.result (c.args.at + c.word_len-n.result) c.args.held c.args.rest.now _ c.requires.placed (omega (arith, c.word_len-n.ensures.value, c.word_len-n.ensures.within, c.if-n-rest.false)) c.word_len-n.ensures.value refl c.in_ok-held.ensures)
