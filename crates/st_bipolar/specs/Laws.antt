-- What follows from what a depth-first search delivers.
use Rattle.std.specs.Prelude.{ℕ, ◌≡◌, ◌<◌, Bool, List, length, slice_index}
use Rattle.st_ids.specs.Graph.{Graph, HasEnds}
use Rattle.st_map.specs.Orders.{HasNoLoop}
use Rattle.st_bipolar.specs.Search.{HasNoJoint, IsBelowJoint}
use Rattle.st_bipolar.specs.Places.{IsBalanced, IsPlacedBySides}
use Rattle.st_ids.specs.Undirected.{IsConnected}
use Rattle.st_bipolar.specs.Cuts.{CutsOff, HasAll, IsStNumbering}

-- the table has the place of each element of the list
abbrev pub AreRanks : List ℕ → List ℕ → Type 0
AreRanks L rank = (i : ℕ) → i < length L → slice_index rank (slice_index L i) ≡ i

pub record VisitedLaw (g : Graph) (s t : ℕ) (vs parent low : List ℕ) : Type 0 where
  -- what is below a child of c whose low point is c is cut off by c
  pub apart : (c v : ℕ) → v < length vs → IsBelowJoint (length vs) (slice_index parent) (slice_index low) c v → CutsOff g s t (slice_index vs c) (slice_index vs v)
  -- and nothing else is
  pub joined : (c v : ℕ) → c < length vs → v < length vs → CutsOff g s t (slice_index vs c) (slice_index vs v) → (IsBelowJoint (length vs) (slice_index parent) (slice_index low) c v → ⊥) → ⊥
  pub no_cut : HasAll g vs → HasNoJoint (length vs) (slice_index parent) (slice_index low) → (c v : ℕ) → CutsOff g s t c v → ⊥
  -- each vertex put beside its parent, away from its low point: the places number the vertices
  pub numbers : HasAll g vs → HasNoJoint (length vs) (slice_index parent) (slice_index low) → HasEnds g → HasNoLoop g → IsConnected g s
      → (side : ℕ → Bool) (L rank : List ℕ) (r : ℕ → ℕ) → IsBalanced (length vs) (slice_index parent) (slice_index low) side → IsPlacedBySides (length vs) (slice_index parent) side L
      → AreRanks L rank → ((k : ℕ) → k < length vs → r (slice_index vs k) ≡ slice_index rank k) → IsStNumbering g s t r
