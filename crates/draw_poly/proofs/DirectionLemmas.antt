-- Cross products of directions between natural points.
--   cross_below, cross_above   the sign of a cross product, in natural numbers
--   one_row_out, one_row_in    of two directions up by one row, from one point or to one point
use Rattle.std.proofs.Common.{ℕ, ◌<◌, ◌+◌, ◌*◌, ◌≡◌, refl, arith, ℤ, pos, ◌-ℤ◌, ◌*ℤ◌, ◌<ℤ◌}
use Rattle.std.proofs.lemmas.Int.{ints}
use borrow.Author.Differences.{up, down}
use Rattle.st_picture.specs.Items.{grid_point}
use Rattle.st_picture.specs.Order.{point_minus, cross_of_directions}
use Rattle.st_picture.proofs.Public.{product_of_differences, difference_is}

-- (b - a) * (d - c) in natural numbers
product : (a b c d : ℕ) → up ((pos b -ℤ pos a) *ℤ (pos d -ℤ pos c)) + (b * c + a * d) ≡ down ((pos b -ℤ pos a) *ℤ (pos d -ℤ pos c)) + (b * d + a * c)
product a b c d = product_of_differences (pos b -ℤ pos a) (pos d -ℤ pos c) a b c d (difference_is (pos b) (pos a) b a refl refl) (difference_is (pos d) (pos c) d c refl refl)

less_by : (z w : ℤ) (a b c d : ℕ) → up z + a ≡ down z + b → up w + c ≡ down w + d → b + c < d + a → (z -ℤ w) <ℤ pos 0
less_by z w a b c d e f h = omega (arith, ints)

more_by : (z w : ℤ) (a b c d : ℕ) → up z + a ≡ down z + b → up w + c ≡ down w + d → d + a < b + c → pos 0 <ℤ (z -ℤ w)
more_by z w a b c d e f h = omega (arith, ints)

-- of two directions, from (ax, ay) to (bx, by) and from (cx, cy) to (dx, dy)
pub cross_below : (ax ay bx by cx cy dx dy : ℕ) → (bx * dy + ax * cy) + (by * cx + ay * dx) < (by * dx + ay * cx) + (bx * cy + ax * dy) → cross_of_directions (point_minus (grid_point bx by) (grid_point ax ay)) (point_minus (grid_point dx dy) (grid_point cx cy)) <ℤ pos 0
cross_below ax ay bx by cx cy dx dy h =
    less_by ((pos bx -ℤ pos ax) *ℤ (pos dy -ℤ pos cy)) ((pos by -ℤ pos ay) *ℤ (pos dx -ℤ pos cx)) (bx * cy + ax * dy) (bx * dy + ax * cy) (by * cx + ay * dx) (by * dx + ay * cx)
    (product ax bx cy dy) (product ay by cx dx) h

pub cross_above : (ax ay bx by cx cy dx dy : ℕ) → (by * dx + ay * cx) + (bx * cy + ax * dy) < (bx * dy + ax * cy) + (by * cx + ay * dx) → pos 0 <ℤ cross_of_directions (point_minus (grid_point bx by) (grid_point ax ay)) (point_minus (grid_point dx dy) (grid_point cx cy))
cross_above ax ay bx by cx cy dx dy h =
    more_by ((pos bx -ℤ pos ax) *ℤ (pos dy -ℤ pos cy)) ((pos by -ℤ pos ay) *ℤ (pos dx -ℤ pos cx)) (bx * cy + ax * dy) (bx * dy + ax * cy) (by * cx + ay * dx) (by * dx + ay * cx)
    (product ax bx cy dy) (product ay by cx dx) h

-- ---- directions that go up by one row
pub one_row_out : (t u p r : ℕ) → t < u → cross_of_directions (point_minus (grid_point t (r + 1)) (grid_point p r)) (point_minus (grid_point u (r + 1)) (grid_point p r)) <ℤ pos 0
one_row_out t u p r h = cross_below p r t (r + 1) p r u (r + 1) (omega arith)

pub one_row_in : (t u p r : ℕ) → t < u → pos 0 <ℤ cross_of_directions (point_minus (grid_point p (r + 1)) (grid_point t r)) (point_minus (grid_point p (r + 1)) (grid_point u r))
one_row_in t u p r h = cross_above t r p (r + 1) u r p (r + 1) (omega arith)
