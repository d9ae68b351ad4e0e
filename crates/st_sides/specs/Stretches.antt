-- The edges of a stretch of a cycle of ends.
--   forward k f d     the edges of the k ends from d on
--   backward k f d    the same edges from the last to the first
-- Letters: f leads to the next end, d end, k steps.
use Rattle.std.specs.Prelude.{ℕ, zero, suc, List, [], ◌∷◌}
use Rattle.st_ids.specs.Ends.{edge_of}
use Rattle.st_map.specs.Orbits.{iterate}

-- the edges of d, f d, .., in k steps
abbrev pub forward : ℕ → (ℕ → ℕ) → ℕ → List ℕ
forward zero f d = []
forward (suc k) f d = edge_of d ∷ forward k f (f d)

-- the same edges from the last to the first
abbrev pub backward : ℕ → (ℕ → ℕ) → ℕ → List ℕ
backward zero f d = []
backward (suc k) f d = edge_of (iterate k f d) ∷ backward k f d
