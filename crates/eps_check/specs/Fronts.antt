-- Fronts: the last strip at each height, of those that were placed.
--   HasBehind front lo hi c e     the front over the cells from lo to hi has a strip in the cell c, and e is behind it
--   IsAllLeft front lo hi p       whatever is behind the front lies left of p
--   PlacesStrip old new lo hi p   the front is changed by placing p
--   IsSplit old new               the front is changed so that what was behind it is so
use Rattle.std.specs.Prelude.{ℕ, ◌+◌, ◌-◌, ◌/◌, ◌<◌, ◌≤◌}
use Rattle.eps_check.specs.declared.front.Front.{Front, Free, Last, Halves'}
use Rattle.eps_check.specs.declared.strip.Strip.{Strip}
use Rattle.eps_check.specs.Strips.{CoversCell, IsBehind, IsLeftInCell}

-- the middle of a range
abbrev pub middle : ℕ → ℕ → ℕ
middle lo hi = lo + (hi - lo) / 2

-- the front has a strip in the cell, and e is behind it there
abbrev pub HasBehind : Front → ℕ → ℕ → ℕ → Strip → Type 0
HasBehind Free lo hi c e = ⊥
HasBehind (Last s) lo hi c e = IsBehind e s c
HasBehind (Halves' p below q above) lo hi c e =
    (c < middle lo hi → HasBehind below lo (middle lo hi) c e) × (middle lo hi ≤ c → HasBehind above (middle lo hi) hi c e)

-- what is behind the front in a cell of the range lies left of p there
pub record IsAllLeft (front : Front) (lo hi : ℕ) (p : Strip) : Type 0 where
  pub at : (c : ℕ) (e : Strip) → lo ≤ c → c < hi → e.base < e.top → HasBehind front lo hi c e → IsLeftInCell e p c

-- placing p keeps what was behind the front, found it left of p at p's heights, and puts p behind the front there
pub record PlacesStrip (old new : Front) (lo hi : ℕ) (p : Strip) : Type 0 where
  pub keeps : (c : ℕ) (e : Strip) → lo ≤ c → c < hi → e.base < e.top → HasBehind old lo hi c e → HasBehind new lo hi c e
  pub left : (c : ℕ) (e : Strip) → lo ≤ c → c < hi → e.base < e.top → CoversCell p c → HasBehind old lo hi c e → IsLeftInCell e p c
  pub own : (c : ℕ) → lo ≤ c → c < hi → CoversCell p c → HasBehind new lo hi c p

-- what was behind the old front is behind the new one
pub record IsSplit (old new : Front) : Type 0 where
  pub keeps : (lo hi c : ℕ) (e : Strip) → HasBehind old lo hi c e → HasBehind new lo hi c e
