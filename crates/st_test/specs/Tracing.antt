-- What holds while faces are traced.
use Rattle.std.specs.Prelude.{ℕ, zero, suc, ◌≡◌, ◌<◌, ◌≤◌, Bool, cond, List, length, slice_index}
use Rattle.st_map.specs.Counting.{count_below}
use Rattle.st_map.specs.Orbits.{SameOrbit}
use Rattle.st_map.specs.Embedded.{Embedded, darts, face}
use Rattle.st_test.specs.FaceNumbers.{is_least, orbit_number}

-- the first number below n that passes, else n
abbrev pub first_within : ℕ → (ℕ → Bool) → ℕ
first_within zero q = zero
first_within (suc n) q = cond (q zero) zero (suc (first_within n (λ k. q (suc k))))

-- the ends of the orbit of start have the number, and the others what they had
pub record IsTraced (f : ℕ → ℕ) (start number : ℕ) (old new : List ℕ) : Type 0 where
  pub size : length new ≡ length old
  pub members : (e : ℕ) → SameOrbit f start e → slice_index new e ≡ number
  pub others : (e : ℕ) → (SameOrbit f start e → ⊥) → slice_index new e ≡ slice_index old e

-- the faces with a least end below d have their numbers, and the ends of the others have the mark
pub record AreTracedBelow (g : Embedded) (mark d : ℕ) (orbit : List ℕ) (count : ℕ) : Type 0 where
  pub size : length orbit ≡ darts g
  pub done : (e : ℕ) → e < darts g → face g e < d → slice_index orbit e ≡ orbit_number g e
  pub rest : (e : ℕ) → e < darts g → d ≤ face g e → slice_index orbit e ≡ mark
  pub so_far : count ≡ count_below d (is_least g)
