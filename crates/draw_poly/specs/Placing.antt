-- Closures that place a vertex between the ends of its bar.
--   PlacerValue F                what `Placer` is seen as: the closure
--   AreEnds lo hi                both are columns of a picture, and lo is not after hi
--   IsPlacement pre post p       between any two ends the closure may be called, and it answers a column between them
use Rattle.std.specs.Prelude.{ℤ, pos, ◌≤ℤ◌}
use Rattle.st_ids.specs.declared.limits.TheConstants.{MOST_COORDINATE}

-- A closure.
pub record PlacerValue (F : Type 0) : Type 0 where
  pub closure : F

-- lo and hi are ends of a bar: both are columns of a picture, and lo is not after hi
pub record AreEnds (lo hi : ℤ) : Type 0 where
  pub from_zero : pos 0 ≤ℤ lo
  pub in_order : lo ≤ℤ hi
  pub to_greatest : hi ≤ℤ pos MOST_COORDINATE

-- Between any two ends the closure may be called, and what it answers lies from one to the other.
pub record IsPlacement {F : Type 0} (pre : F → ℤ → ℤ → Type 0) (post : F → ℤ → ℤ → ℤ → Type 0) (p : PlacerValue F) : Type 0 where
  pub callable : (lo hi : ℤ) → AreEnds lo hi → pre p.closure lo hi
  pub from : (lo hi x : ℤ) → AreEnds lo hi → post p.closure lo hi x → lo ≤ℤ x
  pub to : (lo hi x : ℤ) → AreEnds lo hi → post p.closure lo hi x → x ≤ℤ hi
