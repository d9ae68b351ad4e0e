-- What the numbers of faces mean, in every embedded graph, planar or not.
use Rattle.std.specs.Prelude.{ℕ, ◌≡◌, ◌≢◌, ◌↔◌, ◌<◌, ◌≤◌}
use Rattle.st_map.specs.Orbits.{iterate, Permutes, SameOrbit}
use Rattle.st_map.specs.Embedded.{Embedded, IsRotation, darts, phi, face}

-- The face of an end is the least end that steps of phi reach. Two ends are of one face exactly where steps lead from
-- the one to the other. An end that comes before all others of its face is its face. Steps lead back to each end.
pub record FacesAre (g : Embedded) : Type 0 where
  pub permutes : Permutes (darts g) (phi g)
  pub reached : (d : ℕ) → d < darts g → SameOrbit (phi g) d (face g d)
  pub least : (d e : ℕ) → d < darts g → SameOrbit (phi g) d e → face g d ≤ e
  pub one : (d e : ℕ) → d < darts g → e < darts g → SameOrbit (phi g) d e ↔ (face g d ≡ face g e)
  pub new : (d : ℕ) → d < darts g → ((e : ℕ) → e < d → face g e ≢ face g d) → face g d ≡ d
  pub returns : (d : ℕ) → d < darts g → (p : ℕ) × (0 < p) × (p ≤ darts g) × (iterate p (phi g) d ≡ d)

-- the faces of every rotation are the orbits of phi
abbrev pub FacesLaw : Type 0
FacesLaw = (g : Embedded) → IsRotation g → FacesAre g
