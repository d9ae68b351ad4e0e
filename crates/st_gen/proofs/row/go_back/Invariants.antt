use Rattle.st_gen.specs.Chunks.{IsSpot}
use Rattle.st_gen.proofs.row.go_back.Given as goal

abbrev pub invariant-loop-before : goal.invariant-loop-before
invariant-loop-before l = IsSpot l.chunks l.chunk l.before

abbrev pub decreases-loop-before : goal.decreases-loop-before
decreases-loop-before l = l.chunk
