use Rattle.std.proofs.Common.{◌≡◌, ◌+◌, ◌-◌, ◌*◌, ◌≤◌, ◌++◌, ℕ, List, length, drop}
use Rattle.gml_core.specs.Pieces.{IsPlaced, rank}
use Rattle.gml_core.specs.Readers.{TokensRead, StandsFor}
use Rattle.gml_core.proofs.readers.TokenReader.feed.Given as goal

abbrev pub invariant-loop-at : goal.invariant-loop-at
invariant-loop-at l =
    (l.at ≤ length l.piece) × (l.reader.fed ≡ l.fn.self.fed + l.at) × IsPlaced l.reader.state l.reader.fed × ((b : List ℕ) → StandsFor l.fn.self b → TokensRead l.reader (b ++ l.piece) (drop l.at l.piece))

abbrev pub decreases-loop-at : goal.decreases-loop-at
decreases-loop-at l = 2 * (length l.piece - l.at) + rank l.reader.state
