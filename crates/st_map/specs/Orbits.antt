-- A map of numbers to numbers, and the orbits that its steps make.
--   iterate k f d        k steps of f from d
--   Permutes n f         f permutes the numbers below n
--   SameOrbit f d e      some number of steps leads from d to e
--   least_within k f d   the least number that at most k steps reach from d
use Rattle.std.specs.Prelude.{ℕ, zero, suc, ◌≡◌, ◌<◌, min}

-- k steps of f from d
abbrev pub iterate : ℕ → (ℕ → ℕ) → ℕ → ℕ
iterate zero f d = d
iterate (suc k) f d = f (iterate k f d)

-- f permutes the numbers below n
pub record Permutes (n : ℕ) (f : ℕ → ℕ) : Type 0 where
  pub stays : (d : ℕ) → d < n → f d < n
  pub apart : (c d : ℕ) → c < n → d < n → f c ≡ f d → c ≡ d

-- some number of steps of f leads from d to e
abbrev pub SameOrbit : (ℕ → ℕ) → ℕ → ℕ → Type 0
SameOrbit f d e = (k : ℕ) × (iterate k f d ≡ e)

-- the least number that at most k steps of f reach from d
abbrev pub least_within : ℕ → (ℕ → ℕ) → ℕ → ℕ
least_within zero f d = d
least_within (suc k) f d = min (iterate (suc k) f d) (least_within k f d)
