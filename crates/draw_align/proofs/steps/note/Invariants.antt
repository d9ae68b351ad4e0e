use Rattle.draw_align.specs.Steps.{IsNoting}
use Rattle.draw_align.proofs.steps.note.Given as goal

abbrev pub invariant-loop-k : goal.invariant-loop-k
invariant-loop-k l = IsNoting l.sides l.paths l.p l.k l.steps
