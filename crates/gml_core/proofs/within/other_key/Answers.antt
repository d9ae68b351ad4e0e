use Rattle.std.proofs.Common.{sym, get_or, ◌∙◌, arith}
use Rattle.gml_core.proofs.Pairs.{letter_solid}
use Rattle.gml_core.proofs.Wholes.{whole_key}
use Rattle.gml_core.proofs.within.other_key.Goals as goal

pub returns-clause-key : goal.returns-clause-key
returns-clause-key c = λ some at.
    let first = sym c.first_of.ensures ∙ c.in-Letter.is in
    whole_key at c.word_len-n.result c.args.rest.now (omega arith) (letter_solid (get_or c.args.rest.now 0 0) first) first c.word_len-n.ensures.value (omega arith)
