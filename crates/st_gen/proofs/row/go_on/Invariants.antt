use Rattle.std.proofs.Common.{◌≤◌, ◌-◌, length}
use Rattle.st_gen.specs.Chunks.{IsSpot}
use Rattle.st_gen.proofs.row.go_on.Given as goal

abbrev pub invariant-loop-before : goal.invariant-loop-before
invariant-loop-before l = record { spot : IsSpot l.chunks l.chunk l.before; low : l.before ≤ l.place }

abbrev pub decreases-loop-before : goal.decreases-loop-before
decreases-loop-before l = length l.chunks - l.chunk
