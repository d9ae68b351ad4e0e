use Rattle.st_number.specs.Heights.{AreTaken}
use Rattle.st_number.proofs.passes.take_all.Given as goal

abbrev pub invariant-loop-e : goal.invariant-loop-e
invariant-loop-e g l = AreTaken (λ e n. g.F.Fn.post l.w.closure (e, tt) n) l.e l.w.most l.taken
