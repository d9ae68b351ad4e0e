use Rattle.std.proofs.Common.{sym, ◌∙◌, arith}
use Rattle.gml_core.proofs.Pairs.{key_at}
use Rattle.gml_core.proofs.within.short_key.Goals as goal

pub returns-clause-key : goal.returns-clause-key
returns-clause-key c = λ some. key_at c.small_letters-n.result c.args.rest.now some (omega arith) (c.small_letters-n.ensures.first some) c.small_letters-n.ensures.word (sym c.is_space.ensures ∙ c.if-not-is_space.false)
