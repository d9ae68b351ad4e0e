-- What the names of a graph lead to, and the tables of a graph as one value.
use Rattle.std.specs.Prelude.{◌≡◌, ℕ, ℤ, All, List, Option, map, length, option_map}
use Rattle.st_ids.specs.Graph.{Graph}
use Rattle.st_ids.specs.declared.ends.Dart.{Dart}
use Rattle.st_ids.specs.declared.names.Names.{Names}
use Rattle.st_input.specs.EdgeNames.{known_names}
use Rattle.st_input.specs.InputGraph.{InputGraph}
use Rattle.st_input.specs.Faults.{node_names, edge_names, ends_in, lengths_in, written_in}
use Rattle.st_input.specs.Orders.{HasEndsBelow}
use Rattle.st_input.specs.Embedding.{outer_end}
use Rattle.st_parts.specs.declared.parts.Parts.{Parts}
use Rattle.st_input.specs.declared.graph.Found.{Found}

-- the tables of a graph as one value
abbrev pub tabled : Graph → Names → List ℕ → List (List ℕ) → Option Dart → List (List ℤ) → InputGraph
tabled graph names lengths orders outer paths = record {
  graph = graph;
  vertex_names = names.vertex;
  edge_names = names.edge;
  lengths = lengths;
  labels = names.label;
  orders = orders;
  outer = option_map (λ (d : Dart). d.0) outer;
  paths = paths;
}

-- the names, the ends, the lengths, the written orders and the outer end of what a pair `graph` says
pub record IsFoundInParts (p : Parts) (f : Found) : Type 0 where
  pub names : f.by_name ≡ node_names p.nodes
  pub edge_index : known_names f.edge_names ≡ edge_names p.edges
  pub ends : f.ends ≡ ends_in (node_names p.nodes) p.edges
  pub size : length f.ends ≡ length p.edges
  pub lengths : f.lengths ≡ lengths_in p.edges
  pub within : All (HasEndsBelow (length p.nodes)) f.ends
  pub orders : f.orders ≡ map (written_in (edge_names p.edges)) p.nodes
  pub outer : option_map (λ (d : Dart). d.0) f.outer ≡ outer_end (edge_names p.edges) p.outer
