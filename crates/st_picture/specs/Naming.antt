-- The names of a graph's vertices and edges, and the labels of its vertices.
-- Letters: g sides, N names, v vertex, e edge.
--   vertex_name, edge_name   the name of a vertex, of an edge
--   label_text N v           the label of v, if it has one
--   IsLabelText text         1 to 80 bytes that print
--   HasLabels N              each label can be shown, and its vertex has a name
--   AreNames g N             an entry for each vertex and edge, no two vertices of one name, labels that can be shown
use Rattle.std.specs.Prelude.{◌≡◌, ◌<◌, ◌≤◌, ℕ, List, length, slice_index_or, Option, Some, None, ℤ, pos}
use Rattle.std.specs.List.{AllByRecursion}
use Rattle.st_ids.specs.declared.names.Names.{Names}
use Rattle.st_shape.specs.Rules.{IsPrintable}
use Rattle.st_sides.specs.Sides.{SidesValue, edge_count}

-- the name of v
unfoldable pub vertex_name : Names → ℕ → ℤ
vertex_name N v = slice_index_or N.vertex v (pos 0)

-- the name of e
unfoldable pub edge_name : Names → ℕ → ℤ
edge_name N e = slice_index_or N.edge e (pos 0)

-- the label of v, if it has one
unfoldable pub label_text : Names → ℕ → Option (List ℕ)
label_text N v = slice_index_or N.label v None

-- 1 to 80 bytes that print
abbrev pub IsLabelText : List ℕ → Type 0
IsLabelText text = (1 ≤ length text) × (length text ≤ 80) × AllByRecursion IsPrintable text

-- Each label can be shown, and there is a name for each entry of the labels.
pub record HasLabels (N : Names) : Type 0 where
  pub named : length N.label ≤ length N.vertex
  pub texts : (v : ℕ) (text : List ℕ) → v < length N.label → label_text N v ≡ Some text → IsLabelText text

-- There is an entry for each vertex and each edge, no two vertices have one name, and labels can be shown. Edges may share
-- a name.
pub record AreNames (g : SidesValue) (N : Names) : Type 0 where
  pub vertices : length N.vertex ≡ g.vertices
  pub edges : length N.edge ≡ edge_count g
  pub labels : length N.label ≡ g.vertices
  pub differ : (u v : ℕ) → u < g.vertices → v < g.vertices → vertex_name N u ≡ vertex_name N v → u ≡ v
  pub texts : (v : ℕ) (text : List ℕ) → v < g.vertices → label_text N v ≡ Some text → IsLabelText text
