-- The order of the file, as sides have it.
--   IsCyclicShift xs ys  ys is the cyclic list xs, read on from one of its places
--   OrderLaw             at each vertex the edges out from left to right, and then the edges in from right to left, are the
--                      clockwise list of the graph, read on from one of its places
use Rattle.std.specs.Prelude.{ℕ, ◌≡◌, ◌<◌, ◌++◌, List, take, drop}
use Rattle.st_map.specs.Embedded.{Embedded, order}
use Rattle.st_test.specs.Planar.{IsPlanarSt}
use Rattle.st_sides.specs.Normal.{clockwise}
use Rattle.st_sides.specs.Sides.{SidesValue, outs, ins}
use Rattle.st_sides.specs.SidesOf.{IsSidesOf}

-- ys is xs, read on from place `from` and then from its beginning
pub record IsCyclicShift (xs ys : List ℕ) : Type 0 where
  pub from : ℕ
  pub is : ys ≡ drop from xs ++ take from xs

-- The edges out of a vertex and then those into it are its clockwise list.
abbrev pub OrderLaw : Type 0
OrderLaw = (g : Embedded) (s t outer : ℕ) (x : SidesValue) → IsPlanarSt g s t outer → IsSidesOf g s t outer x
    → (v : ℕ) → v < g.vertices → IsCyclicShift (order g v) (clockwise (outs x v) (ins x v))
