use Rattle.std.proofs.Common.{take}
use Rattle.stdraw_core.proofs.QueryLemmas.{AreAnswered}
use Rattle.stdraw_core.proofs.query.lines_of.Given as goal

abbrev pub invariant-loop-i : goal.invariant-loop-i
invariant-loop-i l = AreAnswered l.spec l.points (take l.i l.pairs) l.text
