-- What a graph's file has: all that the graph has but written paths, that is its names, lengths, shown labels, orders
-- and outer face, so that the file is read again as the graph; or its vertices and edges alone. Of this only the length
-- 1 is left to its default.
--   name_of names k     the name of vertex or edge k
--   order_pair          the order of a vertex, by the names of its edges
--   label_pairs         the label of a vertex, where it has one
--   node_pairs g v      what the pair of vertex v holds; written_node is the pair
--   length_of g e       the length of edge e; length_pairs has it where it isn't 1
--   written_edge g e    the pair of edge e
--   outer_pairs         the edge and the side of the outer face, where it is named
--   written_pairs g     what the pair `graph` holds
--   written_entries g   the tree of the file: one pair `graph`
--   Extent              how much is written: Plain the names of the vertices and the ends of the edges, Whole all
--   rest_pairs, id_pairs, length_by, outer_by   what a vertex, an edge and the graph have so of the rest
--   node_by, arc_by, pairs_by, entries_by   the pair of a vertex, of an edge, what 'graph' holds, and the tree
--   CanBeWritten x g    g is writable, where all is written
-- Letters: g graph, v vertex, e edge, d end. The place of each pair is 0.
use Rattle.std.specs.Prelude.{ℕ, ℤ, pos, ◌==◌, if◌then◌else◌, List, [], ◌∷◌, ◌++◌, map, length, slice_index_or, codes, Option}
use Rattle.std.specs.Prelude.{None, Some, cond}
use Rattle.std.specs.List.{range_with_len}
use Rattle.st_ids.specs.Graph.{tail_of, head_of}
use Rattle.st_ids.specs.Ends.{edge_of, is_out}
use Rattle.gml_core.specs.Trees.{atom, str, list, Entry, entry, Entries, none, more}
use Rattle.gml_core.specs.Views.{entries_of}
use Rattle.st_writer.specs.declared.written.Extent.{Extent}
use Rattle.st_writer.specs.declared.written.Extent.TheVariants.{Plain, Whole}
use Rattle.st_input.specs.InputGraph.{InputGraph}
use Rattle.st_input.specs.Writable.{IsWritable}
use Rattle.st_writer.specs.Plain.{int_pair, graph_pairs, plain_entries}

abbrev pub name_of : List ℤ → ℕ → ℤ
name_of names k = slice_index_or names k (pos 0)

-- an edge in the order of a vertex
abbrev pub name_pair : List ℤ → ℕ → Entry
name_pair names e = int_pair (codes "e") (name_of names e)

abbrev pub order_pair : List ℤ → List ℕ → Entry
order_pair names es = entry (codes "order") 0 (list (entries_of (map (name_pair names) es)))

abbrev pub label_pairs : Option (List ℕ) → List Entry
label_pairs None = []
label_pairs (Some bs) = entry (codes "label") 0 (atom (str bs)) ∷ []

abbrev pub node_pairs : InputGraph → ℕ → List Entry
node_pairs g v = int_pair (codes "id") (name_of g.vertex_names v) ∷ (label_pairs (slice_index_or g.labels v None) ++ order_pair g.edge_names (slice_index_or g.orders v []) ∷ [])

abbrev pub written_node : InputGraph → ℕ → Entry
written_node g v = entry (codes "node") 0 (list (entries_of (node_pairs g v)))

-- the length of an edge; one that isn't there has none, which is 1
abbrev pub length_of : InputGraph → ℕ → ℕ
length_of g e = slice_index_or g.lengths e 1

-- a length that isn't 1
abbrev pub length_pairs : ℕ → List Entry
length_pairs n = if n == 1 then [] else int_pair (codes "minlen") (pos n) ∷ []

abbrev pub edge_pairs : InputGraph → ℕ → List Entry
edge_pairs g e = int_pair (codes "id") (name_of g.edge_names e) ∷ int_pair (codes "source") (name_of g.vertex_names (tail_of g.graph.ends e)) ∷ int_pair (codes "target") (name_of g.vertex_names (head_of g.graph.ends e)) ∷ length_pairs (length_of g e)

abbrev pub written_edge : InputGraph → ℕ → Entry
written_edge g e = entry (codes "edge") 0 (list (entries_of (edge_pairs g e)))

-- 0 left, 1 right
abbrev pub side_of : ℕ → ℤ
side_of d = cond (is_out d) (pos 0) (pos 1)

abbrev pub end_pairs : List ℤ → ℕ → List Entry
end_pairs names d = int_pair (codes "edge") (name_of names (edge_of d)) ∷ int_pair (codes "side") (side_of d) ∷ []

abbrev pub outer_pairs : List ℤ → Option ℕ → List Entry
outer_pairs names None = []
outer_pairs names (Some d) = entry (codes "outer") 0 (list (entries_of (end_pairs names d))) ∷ []

-- what the pair `graph` holds: that edges are directed, the outer face, the vertices, the edges
unfoldable pub written_pairs : InputGraph → List Entry
written_pairs g = int_pair (codes "directed") (pos 1) ∷ (outer_pairs g.edge_names g.outer ++ (map (written_node g) (range_with_len 0 g.graph.vertices) ++ map (written_edge g) (range_with_len 0 (length g.graph.ends))))

-- the tree of the file: the one pair `graph`
unfoldable pub written_entries : InputGraph → Entries
written_entries g = more (entry (codes "graph") 0 (list (entries_of (written_pairs g)))) none

-- the label and the order of a vertex, where all is written
abbrev pub rest_pairs : Extent → InputGraph → ℕ → List Entry
rest_pairs Plain g v = []
rest_pairs Whole g v = label_pairs (slice_index_or g.labels v None) ++ order_pair g.edge_names (slice_index_or g.orders v []) ∷ []

abbrev pub vertex_pairs : Extent → InputGraph → ℕ → List Entry
vertex_pairs x g v = int_pair (codes "id") (name_of g.vertex_names v) ∷ rest_pairs x g v

abbrev pub node_by : Extent → InputGraph → ℕ → Entry
node_by x g v = entry (codes "node") 0 (list (entries_of (vertex_pairs x g v)))

-- the name of an edge, where all is written
abbrev pub id_pairs : Extent → List ℤ → ℕ → List Entry
id_pairs Plain names e = []
id_pairs Whole names e = int_pair (codes "id") (name_of names e) ∷ []

-- the length of an edge, where all is written
abbrev pub length_by : Extent → ℕ → List Entry
length_by Plain n = []
length_by Whole n = length_pairs n

abbrev pub arc_pairs : Extent → InputGraph → ℕ → List Entry
arc_pairs x g e = id_pairs x g.edge_names e ++ int_pair (codes "source") (name_of g.vertex_names (tail_of g.graph.ends e)) ∷ int_pair (codes "target") (name_of g.vertex_names (head_of g.graph.ends e)) ∷ length_by x (length_of g e)

abbrev pub arc_by : Extent → InputGraph → ℕ → Entry
arc_by x g e = entry (codes "edge") 0 (list (entries_of (arc_pairs x g e)))

-- the outer end, where all is written
abbrev pub outer_by : Extent → InputGraph → Option ℕ
outer_by Plain g = None
outer_by Whole g = g.outer

abbrev pub pairs_by : Extent → InputGraph → List Entry
pairs_by Plain g = graph_pairs g
pairs_by Whole g = written_pairs g

abbrev pub entries_by : Extent → InputGraph → Entries
entries_by Plain g = plain_entries g
entries_by Whole g = written_entries g

abbrev pub CanBeWritten : Extent → InputGraph → Type 0
CanBeWritten Plain g = Unit {0}
CanBeWritten Whole g = IsWritable g
