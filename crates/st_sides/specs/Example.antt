-- A small planar st-graph, which shows that there is one.
--   two_edges    two edges from vertex 0 to vertex 1, edge 0 on the left of edge 1
use Rattle.std.specs.Prelude.{[], ◌∷◌}
use Rattle.st_map.specs.Embedded.{Embedded}

abbrev pub two_edges : Embedded
two_edges = record { vertices = 2; ends = (0, 1) ∷ (0, 1) ∷ []; orders = (0 ∷ 2 ∷ []) ∷ (3 ∷ 1 ∷ []) ∷ [] }
