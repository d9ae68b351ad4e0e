-- The graph that is built.
--   triangle_graph    two edges one behind the other, and one past them
--   triangle_orders   the edges at each vertex, clockwise, with the long edge on the right
use Rattle.std.specs.Prelude.{ℕ, List, [], ◌∷◌}
use Rattle.st_ids.specs.Graph.{Graph}

-- two edges one behind the other, and one past them
abbrev pub triangle_graph : Graph
triangle_graph = record { vertices = 3; ends = (0, 1) ∷ (1, 2) ∷ (0, 2) ∷ [] }

-- the edges at each vertex, clockwise, with the long edge on the right
abbrev pub triangle_orders : List (List ℕ)
triangle_orders = (0 ∷ 2 ∷ []) ∷ (1 ∷ 0 ∷ []) ∷ (2 ∷ 1 ∷ []) ∷ []
