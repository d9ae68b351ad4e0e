use Rattle.std.proofs.Common.{sym, ◌∙◌, arith}
use Rattle.gml_core.proofs.Pairs.{digit_more, int_at, int_value}
use Rattle.gml_core.proofs.within.short_int.Goals as goal

pub loop-n-preserved : goal.loop-n-preserved
loop-n-preserved c = digit_more c.loop-n.n c.loop-n.value c.from.result c.args.rest.now (omega arith) (sym c.is_ascii_digit.ensures.value ∙ c.if-is_ascii_digit.true) c.from.ensures c.loop-n.invariant c.loop-n-test.true

pub returns-clause-value : goal.returns-clause-value
returns-clause-value c = λ some. int_value c.loop-n.n c.loop-n.value c.args.rest.now some (omega (arith, c.loop-n.invariant)) c.loop-n.invariant.3 c.loop-n.invariant.2

pub returns-clause-int : goal.returns-clause-int
returns-clause-int c = λ some. int_at c.loop-n.n c.args.rest.now some (omega (arith, c.loop-n.invariant)) c.loop-n.invariant.3 c.loop-n.invariant.4 (sym c.is_space.ensures ∙ c.if-not-is_space.false)
