-- Cross products of directions between natural points.
--   cross_below, cross_above         the sign of a cross product, in natural numbers
--   cross_below_by, cross_above_by   the same by differences, of directions that don't fall
use Rattle.std.proofs.Common.{ℕ, ◌≡◌, ◌<◌, ◌≤◌, ◌+◌, ◌-◌, ◌*◌, refl, ap, arith, ℤ, pos, ◌-ℤ◌, ◌*ℤ◌, ◌<ℤ◌}
use Rattle.std.proofs.lemmas.Int.{ints}
use borrow.Author.Differences.{up, down}
use Rattle.st_picture.specs.Items.{grid_point}
use Rattle.st_picture.specs.Order.{point_minus, cross_of_directions}
use Rattle.st_picture.proofs.Public.{product_of_differences, difference_is}

-- (b - a) * (d - c) in natural numbers
product : (a b c d : ℕ) → up ((pos b -ℤ pos a) *ℤ (pos d -ℤ pos c)) + (b * c + a * d) ≡ down ((pos b -ℤ pos a) *ℤ (pos d -ℤ pos c)) + (b * d + a * c)
product a b c d = product_of_differences (pos b -ℤ pos a) (pos d -ℤ pos c) a b c d (difference_is (pos b) (pos a) b a refl refl) (difference_is (pos d) (pos c) d c refl refl)

less_by : (z w : ℤ) (a b c d : ℕ) → up z + a ≡ down z + b → up w + c ≡ down w + d → b + c < d + a → (z -ℤ w) <ℤ pos 0
less_by z w a b c d e f h = omega (arith, ints)

more_by : (z w : ℤ) (a b c d : ℕ) → up z + a ≡ down z + b → up w + c ≡ down w + d → d + a < b + c → pos 0 <ℤ (z -ℤ w)
more_by z w a b c d e f h = omega (arith, ints)

-- of two directions, from (ax, ay) to (bx, by) and from (cx, cy) to (dx, dy)
pub cross_below : (ax ay bx by cx cy dx dy : ℕ) → (bx * dy + ax * cy) + (by * cx + ay * dx) < (by * dx + ay * cx) + (bx * cy + ax * dy) → cross_of_directions (point_minus (grid_point bx by) (grid_point ax ay)) (point_minus (grid_point dx dy) (grid_point cx cy)) <ℤ pos 0
cross_below ax ay bx by cx cy dx dy h =
    less_by ((pos bx -ℤ pos ax) *ℤ (pos dy -ℤ pos cy)) ((pos by -ℤ pos ay) *ℤ (pos dx -ℤ pos cx)) (bx * cy + ax * dy) (bx * dy + ax * cy) (by * cx + ay * dx) (by * dx + ay * cx)
    (product ax bx cy dy) (product ay by cx dx) h

pub cross_above : (ax ay bx by cx cy dx dy : ℕ) → (by * dx + ay * cx) + (bx * cy + ax * dy) < (bx * dy + ax * cy) + (by * cx + ay * dx) → pos 0 <ℤ cross_of_directions (point_minus (grid_point bx by) (grid_point ax ay)) (point_minus (grid_point dx dy) (grid_point cx cy))
cross_above ax ay bx by cx cy dx dy h =
    more_by ((pos bx -ℤ pos ax) *ℤ (pos dy -ℤ pos cy)) ((pos by -ℤ pos ay) *ℤ (pos dx -ℤ pos cx)) (bx * cy + ax * dy) (bx * dy + ax * cy) (by * cx + ay * dx) (by * dx + ay * cx)
    (product ax bx cy dy) (product ay by cx dx) h

-- ---- directions that do not fall
by_differences : (a b c d A C : ℕ) → b ≡ a + A → d ≡ c + C → A * C + (b * c + a * d) ≡ b * d + a * c
by_differences a b c d A C e f = omega (arith, ap (λ t. t * d) e, ap (λ t. t * c) e, ap (λ t. a * t) f, ap (λ t. A * t) f)

pub cross_below_by : (ax ay bx by cx cy dx dy : ℕ) → ax ≤ bx → ay ≤ by → cx ≤ dx → cy ≤ dy → (bx - ax) * (dy - cy) < (by - ay) * (dx - cx) → cross_of_directions (point_minus (grid_point bx by) (grid_point ax ay)) (point_minus (grid_point dx dy) (grid_point cx cy)) <ℤ pos 0
cross_below_by ax ay bx by cx cy dx dy h1 h2 h3 h4 l =
    let e = by_differences ax bx cy dy (bx - ax) (dy - cy) (omega arith) (omega arith) in
    let f = by_differences ay by cx dx (by - ay) (dx - cx) (omega arith) (omega arith) in
    cross_below ax ay bx by cx cy dx dy (sums ((bx - ax) * (dy - cy)) ((by - ay) * (dx - cx)) (bx * dy + ax * cy) (bx * cy + ax * dy) (by * cx + ay * dx) (by * dx + ay * cx) l e f)
  where
    sums : (m n z z' w w' : ℕ) → m < n → m + z' ≡ z → n + w ≡ w' → z + w < w' + z'
    sums m n z z' w w' l e f = omega arith

pub cross_above_by : (ax ay bx by cx cy dx dy : ℕ) → ax ≤ bx → ay ≤ by → cx ≤ dx → cy ≤ dy → (by - ay) * (dx - cx) < (bx - ax) * (dy - cy) → pos 0 <ℤ cross_of_directions (point_minus (grid_point bx by) (grid_point ax ay)) (point_minus (grid_point dx dy) (grid_point cx cy))
cross_above_by ax ay bx by cx cy dx dy h1 h2 h3 h4 l =
    let e = by_differences ax bx cy dy (bx - ax) (dy - cy) (omega arith) (omega arith) in
    let f = by_differences ay by cx dx (by - ay) (dx - cx) (omega arith) (omega arith) in
    cross_above ax ay bx by cx cy dx dy (sums ((by - ay) * (dx - cx)) ((bx - ax) * (dy - cy)) (by * dx + ay * cx) (by * cx + ay * dx) (bx * cy + ax * dy) (bx * dy + ax * cy) l f e)
  where
    sums : (m n z z' w w' : ℕ) → m < n → m + z' ≡ z → n + w ≡ w' → z + w < w' + z'
    sums m n z z' w w' l e f = omega arith
