-- The embedded graph of a text: what a text without a fault says.
--   outer_end names o      the end of an edge whose face is the outer one
--   embedded_in p          the graph of what a pair `graph` says
--   embedded_graph text    the graph of a text, where it has a pair `graph`
use Rattle.std.specs.Prelude.{◌+◌, ◌*◌, ℕ, ℤ, nat_abs, List, length, Option, None, Some, option_map, codes}
use Rattle.gml_core.specs.Trees.{Entry, Entries, listed}
use Rattle.st_parts.specs.Used.{first_with}
use Rattle.st_parts.specs.Parts.{parts_in}
use Rattle.st_input.specs.Faults.{node_names, edge_names, ends_in, lengths_in, edge_number}
use Rattle.st_input.specs.Orders.{full_orders}
use Rattle.st_input.specs.InputGraph.{InputGraph}
use Rattle.st_parts.specs.declared.parts.Mention.{Mention}
use Rattle.st_parts.specs.declared.parts.Outer.{Outer}
use Rattle.st_parts.specs.declared.parts.Parts.{Parts}

-- the end of an edge whose face is the outer one: on its left for the side 0, on its right for the side 1
abbrev pub written_end : List ℤ → Option Mention → Option ℤ → Option ℕ
written_end names (Some m) (Some s) = Some (2 * edge_number names m + nat_abs s)
written_end names m s = None

abbrev pub outer_end : List ℤ → Option Outer → Option ℕ
outer_end names None = None
outer_end names (Some o) = written_end names o.edge o.side

-- the graph of what a pair `graph` says
abbrev pub embedded_in : Parts → InputGraph
embedded_in p = record {
  graph = record { vertices = length p.nodes; ends = ends_in (node_names p.nodes) p.edges };
  vertex_names = node_names p.nodes;
  edge_names = edge_names p.edges;
  lengths = lengths_in p.edges;
  labels = p.labels;
  orders = full_orders (edge_names p.edges) (ends_in (node_names p.nodes) p.edges) p.nodes;
  outer = outer_end (edge_names p.edges) p.outer;
  paths = p.paths;
}

-- the graph of a text, where it has a pair `graph`
unfoldable pub embedded_graph : Entries → Option InputGraph
embedded_graph text = option_map (λ (g : Entry). embedded_in (parts_in g)) (first_with (codes "graph") (listed text))
