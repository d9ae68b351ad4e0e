-- Where two segments share a point.
-- Frame: x grows to the right, y upwards. Letters: p, q, r points of the grid; s, t segments.
--   cross p q r    above 0 where the walk from p by q to r turns left, below 0 where it turns right
--   Ratio          a point of the plane, with whole numbers over one denominator
--   LiesOn s p     p is i steps of q on the way along s
--   Share s t p    p is a point of both;  Meet s t  some point is
-- Stated by points with fractions as coordinates; the code looks at signs of cross products.
use Rattle.std.specs.Prelude.{◌≡◌, ℕ, ◌≤◌, ℤ, pos, ◌+ℤ◌, ◌-ℤ◌, ◌*ℤ◌, ◌≤ℤ◌}
use Rattle.st_ids.specs.declared.limits.TheConstants.{MOST_COORDINATE}
use Rattle.st_shape.specs.declared.point.Point.{Point}
use Rattle.st_shape.specs.declared.point.Segment.{Segment}

-- the coordinates are from 0 to the greatest of a picture
pub record IsOnGrid (p : Point) : Type 0 where
  pub x_low : pos 0 ≤ℤ p.x
  pub x_high : p.x ≤ℤ pos MOST_COORDINATE
  pub y_low : pos 0 ≤ℤ p.y
  pub y_high : p.y ≤ℤ pos MOST_COORDINATE

-- the cross product of q - p and r - p
abbrev pub cross : Point → Point → Point → ℤ
cross p q r = (q.x -ℤ p.x) *ℤ (r.y -ℤ p.y) -ℤ (q.y -ℤ p.y) *ℤ (r.x -ℤ p.x)

-- a point of the plane whose coordinates are x over q and y over q
pub record Ratio : Type 0 where
  pub x : ℤ
  pub y : ℤ
  pub q : ℕ

-- the point lies on the segment, i steps of q on the way from a to b
pub record LiesOn (s : Segment) (p : Ratio) : Type 0 where
  pub i : ℕ
  pub within : i ≤ p.q
  pub x_is : p.x ≡ pos p.q *ℤ s.a.x +ℤ pos i *ℤ (s.b.x -ℤ s.a.x)
  pub y_is : p.y ≡ pos p.q *ℤ s.a.y +ℤ pos i *ℤ (s.b.y -ℤ s.a.y)

-- the point is one of both segments
pub record Share (s t : Segment) (p : Ratio) : Type 0 where
  pub divides : 1 ≤ p.q
  pub first : LiesOn s p
  pub second : LiesOn t p

-- some point is one of both segments
abbrev pub Meet : Segment → Segment → Type 0
Meet s t = (p : Ratio) × Share s t p

-- the fraction is this point
pub record IsAt (p : Ratio) (v : Point) : Type 0 where
  pub x_is : p.x ≡ pos p.q *ℤ v.x
  pub y_is : p.y ≡ pos p.q *ℤ v.y
