use Rattle.std.specs.Prelude.{◌≡◌, length}
use Rattle.st_order.specs.Labels.{AreAtMost}
use Rattle.st_callers.specs.Reaching.{AnswersEach}
use Rattle.st_callers.proofs.reaching.compared.Given as goal

abbrev pub invariant-loop-i : goal.invariant-loop-i
invariant-loop-i l = record { size : length l.answers.items ≡ l.i; each : AnswersEach (AreAtMost l.labels) l.pairs l.answers.items }
