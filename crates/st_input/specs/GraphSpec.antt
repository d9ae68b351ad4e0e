-- What a `GraphSpec` holds: the tables of its graph, and an index each of the vertices' and the edges' names.
use Rattle.std.specs.Prelude.{◌≡◌, ◌<◌, ◌^◌, length, option_map}
use Rattle.st_ids.specs.declared.ends.Dart.{Dart}
use Rattle.st_input.specs.EdgeNames.{known_names}
use Rattle.st_input.specs.InputGraph.{InputGraph, IsConsistent}
use Rattle.st_input.specs.declared.graph.GraphSpec.TheInside.{Inside}

abbrev pub graph_view : Inside → InputGraph
graph_view a = record {
  graph = a.graph;
  vertex_names = a.names.vertex;
  edge_names = a.names.edge;
  lengths = a.lengths;
  labels = a.names.label;
  orders = a.orders;
  outer = option_map (λ (d : Dart). d.0) a.outer;
  paths = a.paths;
}

-- the indexes have the names, the paths can be numbered, and the tables fit together
pub record IsIndexed (a : Inside) : Type 0 where
  pub index : a.by_name ≡ a.names.vertex
  pub edge_index : known_names a.edge_names ≡ a.names.edge
  pub few_paths : length a.paths < 2 ^ 31
  pub consistent : IsConsistent (graph_view a)
