-- The dummies of the reduced graph, by the sides of the graph alone.
-- Letters: g graph with its lists, s source, t sink, outer an end on the outer face, x sides of g, k how many edges were gone
-- through, ds the dummy of each of them, n how many vertices there are then.
--   SplitsTo g k ds n       those of the first k edges of g that are transitive are split, with the dummies ds
--   AreDummiesTo x k ds n   so it is for each graph with these sides
--   AreDummies x ds n       ds are the dummies of the reduced graph, which has n vertices
use Rattle.std.specs.Prelude.{ℕ, ◌≡◌, List, Option}
use Rattle.st_map.specs.Embedded.{Embedded}
use Rattle.st_test.specs.Planar.{IsPlanarSt}
use Rattle.st_sides.specs.Sides.{SidesValue, edge_count}
use Rattle.st_sides.specs.SidesOf.{IsSidesOf}
use Rattle.st_reduce.specs.Reduced.{Splits}

-- g with those of its first k edges split that are transitive, which has n vertices; ds has the dummies of the k edges
pub record SplitsTo (g : Embedded) (k : ℕ) (ds : List (Option ℕ)) (n : ℕ) : Type 0 where
  pub graph : Embedded
  pub splits : Splits g k ds graph
  pub vertices : graph.vertices ≡ n

-- whatever graph has the sides x, its first k edges have the dummies ds, and there are n vertices then
abbrev pub AreDummiesTo : SidesValue → ℕ → List (Option ℕ) → ℕ → Type 0
AreDummiesTo x k ds n = (g : Embedded) (s t outer : ℕ) → IsPlanarSt g s t outer → IsSidesOf g s t outer x → SplitsTo g k ds n

-- whatever graph has the sides x, its reduced graph has the dummies ds and n vertices
abbrev pub AreDummies : SidesValue → List (Option ℕ) → ℕ → Type 0
AreDummies x ds n = AreDummiesTo x (edge_count x) ds n
