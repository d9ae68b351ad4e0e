-- The first fault of a text, in the order in which faults are looked for.
--   is_side s                 0 for left, 1 for right
--   outer_fault names o       what is wrong with the outer face
--   limits_fault n m ..       more vertices than the limit, or else more edges
--   parts_fault p ..          the first fault of a graph
--   shape_fault text ..       the first fault of a text
use Rattle.std.specs.Prelude.{ℕ, ℤ, pos, Bool, ◌&&◌, List, [], length, Option, None, Some, if◌then◌else◌, int_le, nat_lt, codes, option_map}
use Rattle.gml_core.specs.Trees.{Entry, Entries, listed}
use Rattle.st_parts.specs.Used.{first_with}
use Rattle.st_parts.specs.Kinds.{bad_kind}
use Rattle.st_parts.specs.Parts.{parts_in, second}
use Rattle.st_input.specs.Faults.{or_else, first_fault, node_fault, node_names, edge_fault, ids_fault, edge_names, orders_fault, mention_fault}
use Rattle.st_parts.specs.declared.parts.Mention.{Mention}
use Rattle.st_parts.specs.declared.parts.Outer.{Outer}
use Rattle.st_parts.specs.declared.parts.Parts.{Parts}
use Rattle.st_input.specs.declared.fault.ShapeFault.{ShapeFault}
use Rattle.st_input.specs.declared.fault.ShapeFault.TheVariants.{NoGraph, SecondGraph, BadKind, BadOuter, TooManyVertices, TooManyEdges}

-- 0 left, 1 right
abbrev pub is_side : ℤ → Bool
is_side s = int_le (pos 0) s && int_le s (pos 1)

-- the edge or the side is missing, or the side is none, or else the edge is none
abbrev pub side_fault : List ℤ → ℕ → Option Mention → Option ℤ → Option ShapeFault
side_fault names at (Some m) (Some s) = if is_side s then mention_fault names m else Some (BadOuter at)
side_fault names at m s = Some (BadOuter at)

abbrev pub outer_fault : List ℤ → Option Outer → Option ShapeFault
outer_fault names None = None
outer_fault names (Some o) = side_fault names o.at o.edge o.side

-- more than the limits allow, the vertices first
abbrev pub limits_fault : ℕ → ℕ → ℕ → ℕ → Option ShapeFault
limits_fault n m max_n max_m = if nat_lt max_n n then Some (TooManyVertices n) else if nat_lt max_m m then Some (TooManyEdges m) else None

-- the first fault of a graph: nodes, ends of edges, ids of edges, written orders, outer face, limits
abbrev pub parts_fault : Parts → ℕ → ℕ → Option ShapeFault
parts_fault p max_n max_m =
    or_else (first_fault node_fault [] p.nodes)
    (or_else (first_fault (edge_fault (node_names p.nodes)) [] p.edges)
    (or_else (ids_fault p.edges)
    (or_else (orders_fault (edge_names p.edges) p.nodes)
    (or_else (outer_fault (edge_names p.edges) p.outer)
    (limits_fault (length p.nodes) (length p.edges) max_n max_m)))))

-- a second pair `graph`, or else a value of the wrong kind
abbrev pub text_fault : List Entry → Option ShapeFault
text_fault text = or_else (option_map SecondGraph (second (codes "graph") text)) (option_map BadKind (bad_kind text))

abbrev pub graph_fault : List Entry → Option Entry → ℕ → ℕ → Option ShapeFault
graph_fault text None max_n max_m = Some NoGraph
graph_fault text (Some g) max_n max_m = or_else (text_fault text) (parts_fault (parts_in g) max_n max_m)

-- the first fault of a text; the limits are the greatest numbers of vertices and edges that are allowed
unfoldable pub shape_fault : Entries → ℕ → ℕ → Option ShapeFault
shape_fault text max_n max_m = graph_fault (listed text) (first_with (codes "graph") (listed text)) max_n max_m
