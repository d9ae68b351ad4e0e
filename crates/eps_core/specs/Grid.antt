-- The points that can be printed.
--   corner                the corner of the largest frame
--   IsInLargestFrame p    within the largest frame
--   AreInLargestFrame ps  all of them are
use Rattle.std.specs.Prelude.{pos, List}
use Rattle.std.specs.List.{AllByRecursion}
use Rattle.st_ids.specs.declared.limits.TheConstants.{MOST_COORDINATE}
use Rattle.st_shape.specs.declared.point.Point.{Point}
use Rattle.st_shape.specs.Inside.{IsInside, point}

-- the corner of the largest frame
abbrev pub corner : Point
corner = point (pos MOST_COORDINATE) (pos MOST_COORDINATE)

-- within the largest frame
abbrev pub IsInLargestFrame : Point → Type 0
IsInLargestFrame p = IsInside corner p

-- all points are
abbrev pub AreInLargestFrame : List Point → Type 0
AreInLargestFrame ps = AllByRecursion (IsInside corner) ps
