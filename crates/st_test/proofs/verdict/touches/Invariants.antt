use Rattle.std.proofs.Common.{◌≡◌, ℕ, ◌<◌}
use Rattle.st_map.specs.Embedded.{at}
use Rattle.st_test.specs.FaceNumbers.{orbit_number}
use Rattle.st_test.proofs.verdict.touches.Given as goal

abbrev pub invariant-loop-d : goal.invariant-loop-d
invariant-loop-d l = (c : ℕ) → c < l.d → (orbit_number l.map.graph c ≡ l.face.0) × (at l.map.graph c ≡ l.v.0) → ⊥
