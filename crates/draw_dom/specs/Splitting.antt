-- The sides of the reduced graph, for given dummies.
-- Letters: x sides of a graph, r sides of its reduced graph, ds the dummy of each edge, n how many vertices the reduced graph
-- has; g graph with its lists, s source, t sink, outer an end on the outer face.
--   IsSplitSides x ds n r             r is x with the edges that have a dummy split
--   HasSplitSides x ds n              there are such sides
--   IsSplitLayout g s t outer ds ps   ds are the dummies of g, and ps the compact points of its reduced graph
use Rattle.std.specs.Prelude.{ℕ, ◌≡◌, List, length, Option}
use Rattle.st_map.specs.Embedded.{Embedded}
use Rattle.st_reduce.specs.Reduced.{IsReduced, dummy_at}
use Rattle.st_reduce.specs.ReducedSides.{IsReducedSides}
use Rattle.st_shape.specs.declared.point.Point.{Point}
use Rattle.st_sides.specs.Sides.{SidesValue, IsSides, edge_count}
use Rattle.draw_dom.specs.Shown.{IsCompactLayout}

-- r has n vertices, and is x with the edges that have a dummy split
pub record IsSplitSides (x : SidesValue) (ds : List (Option ℕ)) (n : ℕ) (r : SidesValue) : Type 0 where
  pub size : length ds ≡ edge_count x
  pub vertices : r.vertices ≡ n
  pub sides : IsSides r
  pub last : ℕ → ℕ
  pub are : IsReducedSides x r (dummy_at ds) last

-- there are such sides
pub record HasSplitSides (x : SidesValue) (ds : List (Option ℕ)) (n : ℕ) : Type 0 where
  pub split : SidesValue
  pub are : IsSplitSides x ds n split

-- ds are the dummies of g, and the points are the compact points of its reduced graph
pub record IsSplitLayout (g : Embedded) (s t outer : ℕ) (ds : List (Option ℕ)) (points : List Point) : Type 0 where
  pub reduced : Embedded
  pub is_reduced : IsReduced g ds reduced
  pub layout : IsCompactLayout reduced s t outer points
