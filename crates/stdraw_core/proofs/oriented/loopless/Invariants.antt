use Rattle.std.proofs.Common.{◌≢◌, ◌<◌, ℕ}
use Rattle.st_ids.specs.Graph.{tail_of, head_of}
use Rattle.stdraw_core.proofs.oriented.loopless.Given as goal

-- no edge before e is a loop
abbrev pub invariant-loop-e : goal.invariant-loop-e
invariant-loop-e l = (k : ℕ) → k < l.e → tail_of l.spec.graph.ends k ≢ head_of l.spec.graph.ends k
