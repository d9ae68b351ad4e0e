use Rattle.std.proofs.Common.{◌≡◌, ℕ, ◌+◌, List, length}
use Rattle.gml_core.specs.Readers.{TreeStandsFor}
use Rattle.st_ids.specs.declared.limits.TheConstants.{MOST_BYTES}
use Rattle.st_port.specs.Reading.{Takes}
use Rattle.st_verdict.proofs.feeding.feed.Given as goal

abbrev pub invariant-loop-piece : goal.invariant-loop-piece
invariant-loop-piece g l = (fed : List ℕ) × TreeStandsFor l.reader fed × (length fed + l.left ≡ MOST_BYTES) × Takes (g.S.Source.state l.initial.src) (g.S.Source.state l.src) fed

abbrev pub decreases-loop-piece : goal.decreases-loop-piece
decreases-loop-piece g l = l.left
