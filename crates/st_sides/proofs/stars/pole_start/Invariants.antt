use Rattle.std.proofs.Common.{◌≡◌, ℕ, ◌<◌}
use Rattle.st_map.specs.Embedded.{at}
use Rattle.st_test.specs.FaceNumbers.{orbit_number}
use Rattle.st_sides.proofs.stars.pole_start.Given as goal

abbrev pub invariant-loop-d : goal.invariant-loop-d
invariant-loop-d l = (c : ℕ) → c < l.d → (orbit_number l.graph.map.graph c ≡ l.outer.0) × (at l.graph.map.graph c ≡ l.v.0) → ⊥
