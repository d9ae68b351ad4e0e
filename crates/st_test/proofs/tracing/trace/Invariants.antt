use Rattle.std.proofs.Common.{◌≡◌, ℕ, ◌<◌, eqb, length, get_or}
use Rattle.st_map.specs.Embedded.{darts, phi}
use Rattle.st_map.specs.Orbits.{iterate, SameOrbit}
use Rattle.st_test.specs.Tracing.{first_within}
use Rattle.st_test.proofs.tracing.trace.Given as goal

abbrev pub invariant-round : goal.invariant-round
invariant-round l = record {
  size : length l.orbit ≡ darts l.map.graph;
  place : (j : ℕ) × (0 < j) × (iterate j (phi l.map.graph) l.start.0 ≡ l.end.0) × ((i : ℕ) → i < j → get_or l.orbit (iterate i (phi l.map.graph) l.start.0) 0 ≡ l.number);
  others : (e : ℕ) → (SameOrbit (phi l.map.graph) l.start.0 e → ⊥) → get_or l.orbit e 0 ≡ get_or l.fn.orbit e 0;
  there : l.end.0 < darts l.map.graph;
}

abbrev pub decreases-round : goal.decreases-round
decreases-round l = first_within (darts l.map.graph) (λ k. eqb (iterate k (phi l.map.graph) l.end.0) l.start.0)
