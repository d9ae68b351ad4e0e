-- Ends at one vertex, and walks round it and round a face.
-- Letters: g graph with its lists, c and d ends, f a step, k how many steps.
--   HasOther g d     another end at the vertex of d leads the same way, in or out
--   IsLike d c       c is another end than d and leads the same way
--   IsOnWay n f c Sought k end   k steps of f lead from c to the end, and nothing that is sought was passed
use Rattle.std.specs.Prelude.{ℕ, ◌≡◌, ◌≢◌, ◌<◌}
use Rattle.st_ids.specs.Ends.{is_out}
use Rattle.st_map.specs.Embedded.{Embedded, at, darts}
use Rattle.st_map.specs.Orbits.{iterate}

-- another end at the vertex of d leads the same way, in or out
abbrev pub HasOther : Embedded → ℕ → Type 0
HasOther g d = (c : ℕ) × (c < darts g) × (c ≢ d) × (at g c ≡ at g d) × (is_out c ≡ is_out d)

-- c is another end than d and leads the same way
abbrev pub IsLike : ℕ → ℕ → Type 0
IsLike d c = (c ≢ d) × (is_out c ≡ is_out d)

-- k steps lead from c to the end, and nothing that is sought was passed
pub record IsOnWay (n : ℕ) (f : ℕ → ℕ) (c : ℕ) (Sought : ℕ → Type 0) (k end : ℕ) : Type 0 where
  pub there : end < n
  pub place : end ≡ iterate k f c
  pub passed : (j : ℕ) → j < k → Sought (iterate j f c) → ⊥
