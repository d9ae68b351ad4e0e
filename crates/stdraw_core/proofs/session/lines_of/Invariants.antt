use Rattle.std.proofs.Common.{[]}
use Rattle.stdraw_core.proofs.SessionLemmas.{AnswersRest}
use Rattle.stdraw_core.specs.Session.{so_far}
use Rattle.stdraw_core.proofs.session.lines_of.Given as goal

-- what the records that are left answer is what all answer
abbrev pub invariant-loop-i : goal.invariant-loop-i
invariant-loop-i l = AnswersRest l.items l.i (so_far l.initial.session []) (so_far l.session l.text)
