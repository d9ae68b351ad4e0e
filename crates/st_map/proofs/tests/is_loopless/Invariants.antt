use Rattle.std.proofs.Common.{◌≢◌, ℕ, ◌<◌}
use Rattle.st_ids.specs.Graph.{tail_of, head_of}
use Rattle.st_map.proofs.tests.is_loopless.Given as goal

abbrev pub invariant-loop-e : goal.invariant-loop-e
invariant-loop-e l = (d : ℕ) → d < l.e → tail_of l.graph.ends d ≢ head_of l.graph.ends d
