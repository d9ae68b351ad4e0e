use Rattle.std.proofs.Common.{sym, ◌∙◌}
use Rattle.eps_core.proofs.Bare.{bare_more}
use Rattle.eps_core.proofs.lines.is_bare.Goals as goal

pub loop-b-preserved : goal.loop-b-preserved
loop-b-preserved c = bare_more c.args.text.now c.loop-b.b-index c.loop-b-test.true (sym c.needs_backslash.ensures ∙ c.if-needs_backslash.false) c.loop-b.invariant
