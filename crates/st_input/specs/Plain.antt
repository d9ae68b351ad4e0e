-- A graph that no file gives: a digraph alone, with the names and orders of a file without ids of edges and without orders.
--   counted n            the names 1, 2 and on, so many
--   default_orders g     the default order of each vertex
--   plain_graph g        the graph
-- Letters: g digraph, n how many.
use Rattle.std.specs.Prelude.{ℕ, ℤ, pos, List, [], map, length, replicate, None}
use Rattle.std.specs.List.{range_with_len}
use Rattle.st_ids.specs.Graph.{Graph}
use Rattle.st_input.specs.Names.{positions}
use Rattle.st_input.specs.Orders.{default_order}
use Rattle.st_input.specs.InputGraph.{InputGraph}

-- the names 1, 2 and on, so many
unfoldable pub counted : ℕ → List ℤ
counted n = map (λ k. pos k) (range_with_len 1 n)

-- the default order of each vertex: the edges out in file order, and then the edges in in the reverse of file order
unfoldable pub default_orders : Graph → List (List ℕ)
default_orders g = map (default_order g.ends) (range_with_len 0 g.vertices)

-- vertices are named from 1, edges from 0, and each edge has the length 1; there are no labels, no outer face and no
-- paths
abbrev pub plain_graph : Graph → InputGraph
plain_graph g = record {
  graph = g;
  vertex_names = counted g.vertices;
  edge_names = positions (length g.ends);
  lengths = replicate (length g.ends) 1;
  labels = replicate g.vertices None;
  orders = default_orders g;
  outer = None;
  paths = [];
}
