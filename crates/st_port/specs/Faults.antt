-- The count of faults of a source or a sink.
--   Faults          the count, and whether it can rise no further
--   Rose            the count rose, or can rise no further: only then may a fault be answered
--   GoesOn          the count did not fall
--   counter n       a count of 64 bits that stands at n and stays at its greatest number
--   no_fault        the count of what never fails: it never rises
use Rattle.std.specs.Prelude.{ℕ, ◌-◌, ◌^◌, ◌<◌, ◌≤◌, ◌⊎◌, ◌==◌, Bool, false, IsTrue}

pub record Faults : Type 0 where
  pub count : ℕ
  -- the count can rise no further
  pub is_full : Bool

-- the count rose, or it can rise no further
abbrev pub Rose : Faults → Faults → Type 0
Rose before now = (before.count < now.count) ⊎ IsTrue now.is_full

-- the count did not fall, and once it can rise no further it stays so
pub record GoesOn (before now : Faults) : Type 0 where
  pub later : before.count ≤ now.count
  pub stays : IsTrue before.is_full → IsTrue now.is_full

-- a counter of 64 bits
abbrev pub counter : ℕ → Faults
counter n = record { count = n; is_full = n == 2 ^ 64 - 1 }

-- there is no fault, and there can always be one more
abbrev pub no_fault : Faults
no_fault = record { count = 0; is_full = false }
