use Rattle.std.proofs.Common.{◌-◌}
use Rattle.st_gen.proofs.Ears.{IsGrowing}
use Rattle.st_gen.proofs.making.made_graph.Given as goal

abbrev pub invariant-loop-count : goal.invariant-loop-count
invariant-loop-count l = IsGrowing l.n l.seed l.graph.vertices (record { words = l.words; right = l.right; count = l.count; edges = l.graph.ends })

abbrev pub decreases-loop-count : goal.decreases-loop-count
decreases-loop-count l = l.n - l.count
