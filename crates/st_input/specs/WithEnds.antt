-- A graph whose edges have other ends.
--   with_ends g h d   the same names, lengths, labels and orders over the digraph h, with the outer end d, and without
--                     written paths
-- Letters: g graph, h digraph, d end.
use Rattle.std.specs.Prelude.{ℕ, [], Some}
use Rattle.st_ids.specs.Graph.{Graph}
use Rattle.st_input.specs.InputGraph.{InputGraph}

-- the same names, lengths, labels and orders over other ends of the edges, with an outer end and without written paths
abbrev pub with_ends : InputGraph → Graph → ℕ → InputGraph
with_ends g h d = record {
  graph = h;
  vertex_names = g.vertex_names;
  edge_names = g.edge_names;
  lengths = g.lengths;
  labels = g.labels;
  orders = g.orders;
  outer = Some d;
  paths = [];
}
