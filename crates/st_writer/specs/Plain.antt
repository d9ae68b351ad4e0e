-- A file with the vertices of a graph, by their names, and its edges, and with nothing else.
--   int_pair key n       a pair with an integer
--   node_pair name       a vertex with its name
--   edge_pair names a    an edge with the names of its tail and its head
--   graph_pairs g        what the pair `graph` holds
--   plain_entries g      the tree of the file: one pair `graph`, with a pair for each vertex and each edge
-- Letters: g graph, a the two ends of an edge. The place of each pair is 0.
use Rattle.std.specs.Prelude.{ℕ, ℤ, pos, List, ◌∷◌, ◌++◌, map, slice_index_or, codes}
use Rattle.gml_core.specs.Trees.{atom, int, list, Entry, entry, Entries, none, more}
use Rattle.gml_core.specs.Views.{entries_of}
use Rattle.st_input.specs.InputGraph.{InputGraph}

-- a pair with an integer; the place of each pair is 0
abbrev pub int_pair : List ℕ → ℤ → Entry
int_pair key n = entry key 0 (atom (int n))

-- a vertex with its name
abbrev pub node_pair : ℤ → Entry
node_pair name = entry (codes "node") 0 (list (more (int_pair (codes "id") name) none))

-- an edge with the names of its tail and its head
abbrev pub edge_pair : List ℤ → ℕ × ℕ → Entry
edge_pair names a = entry (codes "edge") 0 (list (more (int_pair (codes "source") (slice_index_or names a.0 (pos 0))) (more (int_pair (codes "target") (slice_index_or names a.1 (pos 0))) none)))

-- what the pair `graph` holds: that edges are directed, then the vertices, then the edges
unfoldable pub graph_pairs : InputGraph → List Entry
graph_pairs g = int_pair (codes "directed") (pos 1) ∷ (map node_pair g.vertex_names ++ map (edge_pair g.vertex_names) g.graph.ends)

-- the tree of the file: the one pair `graph`
unfoldable pub plain_entries : InputGraph → Entries
plain_entries g = more (entry (codes "graph") 0 (list (entries_of (graph_pairs g)))) none
