-- Orbits that are two runs: members that pass a test, and then members that fail it.
--   TwoRuns f b x k p    from x on, k members pass and then p - k members fail, each member once
-- Letters: f leads to the next member, b the test, x the first member, k length of the first run, p of both.
use Rattle.std.specs.Prelude.{ℕ, ◌≡◌, ◌≢◌, ◌<◌, ◌≤◌, Bool, true, false}
use Rattle.st_map.specs.Orbits.{iterate}

-- From x on, the orbit of x is k members that pass b and then p - k members that fail, each once.
pub record TwoRuns (f : ℕ → ℕ) (b : ℕ → Bool) (x k p : ℕ) : Type 0 where
  pub some : 0 < k
  pub more : k < p
  pub back : iterate p f x ≡ x
  pub apart : (j : ℕ) → 0 < j → j < p → iterate j f x ≢ x
  pub first : (j : ℕ) → j < k → b (iterate j f x) ≡ true
  pub then : (j : ℕ) → k ≤ j → j < p → b (iterate j f x) ≡ false
