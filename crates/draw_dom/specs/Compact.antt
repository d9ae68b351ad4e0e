-- Compact points of two numberings.
-- Letters: n how many vertices, X and Y numbers of the vertices, at_x and at_y the vertices of the numbers, a and b functions
-- from a number of one order to the number of the same vertex in the other, u and v vertices.
--   growth m n        1 if the step from a vertex to the next grows, where m and n are their numbers in the other order
--   steps a k         how many of the first k steps grow
--   point_x, point_y  the coordinates of a vertex's compact point
--   CompactLaw        different points, and one is at most another exactly where both numbers are
-- After Di Battista, Tamassia, Tollis, Area requirement and symmetry display of planar upward drawings (1992).
use Rattle.std.specs.Prelude.{ℕ, zero, suc, cond, ◌≡◌, ◌≢◌, ◌<◌, ◌≤◌, ◌+◌, nat_lt, ◌==◌}

-- The step grows unless the other order has the second above the first, and not as its next.
abbrev pub growth : ℕ → ℕ → ℕ
growth m n = cond (nat_lt m n) (cond (n == m + 1) 1 0) 1

-- how many of the steps up to the vertex with number k grow, where a gives the other number
abbrev pub steps : (ℕ → ℕ) → ℕ → ℕ
steps a zero = 0
steps a (suc k) = steps a k + growth (a k) (a (suc k))

-- the growing steps up to v in the order of X
abbrev pub point_x : (ℕ → ℕ) → (ℕ → ℕ) → (ℕ → ℕ) → ℕ → ℕ
point_x X Y at_x v = steps (λ i. Y (at_x i)) (X v)

-- the growing steps up to v in the order of Y
abbrev pub point_y : (ℕ → ℕ) → (ℕ → ℕ) → (ℕ → ℕ) → ℕ → ℕ
point_y X Y at_y v = steps (λ i. X (at_y i)) (Y v)

-- Different vertices have different points, and one point is at most another exactly where both numbers are.
pub record CompactLaw (n : ℕ) (X Y at_x at_y : ℕ → ℕ) : Type 0 where
  pub different : (u v : ℕ) → u < n → v < n → u ≢ v → point_x X Y at_x u ≡ point_x X Y at_x v → point_y X Y at_y u ≡ point_y X Y at_y v → ⊥
  pub x_grows : (u v : ℕ) → u < n → v < n → X u ≤ X v → point_x X Y at_x u ≤ point_x X Y at_x v
  pub y_grows : (u v : ℕ) → u < n → v < n → Y u ≤ Y v → point_y X Y at_y u ≤ point_y X Y at_y v
  pub back : (u v : ℕ) → u < n → v < n → point_x X Y at_x u ≤ point_x X Y at_x v → point_y X Y at_y u ≤ point_y X Y at_y v → (X u ≤ X v) × (Y u ≤ Y v)
