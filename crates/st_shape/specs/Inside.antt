-- Where a point of a picture lies.
--   IsInside corner p   between (0, 0) and the corner, both included
use Rattle.std.specs.Prelude.{ℤ, pos, ◌≤ℤ◌}
use Rattle.st_shape.specs.declared.point.Point.{Point}

-- a point lies between (0, 0) and the corner
pub record IsInside (corner p : Point) : Type 0 where
  pub left : pos 0 ≤ℤ p.x
  pub right : p.x ≤ℤ corner.x
  pub low : pos 0 ≤ℤ p.y
  pub high : p.y ≤ℤ corner.y

abbrev pub point : ℤ → ℤ → Point
point x y = record { x = x; y = y }
