-- How many numbers pass a test.
--   total n f         f 0 + f 1 + .. + f (n - 1)
--   bit b             1 for yes, 0 for no
--   count_below n p   how many numbers below n pass p
--   fibre p h y       the test: passes p, and has the value y under h
use Rattle.std.specs.Prelude.{ℕ, zero, suc, ◌+◌, ◌==◌, ◌&&◌, Bool, cond}

-- f 0 + f 1 + .. + f (n - 1)
abbrev pub total : ℕ → (ℕ → ℕ) → ℕ
total zero f = 0
total (suc n) f = f n + total n f

-- 1 for yes, 0 for no
abbrev pub bit : Bool → ℕ
bit b = cond b 1 0

-- how many numbers below n pass the test
abbrev pub count_below : ℕ → (ℕ → Bool) → ℕ
count_below n p = total n (λ k. bit (p k))

-- the test: passes p, and has the value y under h
abbrev pub fibre : (ℕ → Bool) → (ℕ → ℕ) → ℕ → ℕ → Bool
fibre p h y x = p x && (h x == y)
