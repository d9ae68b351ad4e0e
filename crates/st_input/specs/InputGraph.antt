-- A graph as a file gives it: a digraph with its names, lengths, labels, orders, outer end and paths.
--   InputGraph             the value of a `GraphSpec`
--   IsConsistent g         its tables fit together
--   AreListed g orders     every listed edge is there
--   AreShownLabels labels  every label has 1 to 80 bytes that can be shown
-- Vertices and edges are numbered in file order, from 0. Edge e has the end 2e, whose face lies on its left, and the end
-- 2e + 1, whose face lies on its right.
use Rattle.std.specs.Prelude.{◌≡◌, ◌<◌, ◌≤◌, ◌*◌, ◌^◌, ℕ, ℤ, List, [], length, Option, Some, slice_get, slice_index_or, All, IfSome}
use Rattle.st_ids.specs.Graph.{Graph}
use Rattle.st_ids.specs.Lists.{In}
use Rattle.st_ids.specs.Lengths.{IsLength}
use Rattle.st_input.specs.Names.{AreDifferent}

pub record InputGraph : Type 0 where
  pub graph : Graph
  -- the name of each vertex and of each edge
  pub vertex_names : List ℤ
  pub edge_names : List ℤ
  -- the least length of each edge
  pub lengths : List ℕ
  -- the shown label of each vertex that has one
  pub labels : List (Option (List ℕ))
  -- the edges at each vertex, clockwise
  pub orders : List (List ℕ)
  -- an end that lies in the outer face, where one is named
  pub outer : Option ℕ
  -- the names of the edges of each written path
  pub paths : List (List ℤ)

-- a byte that can be shown
abbrev pub IsShownByte : ℕ → Type 0
IsShownByte b = (32 ≤ b) × (b ≤ 126)

-- 1 to 80 bytes that can be shown
abbrev pub IsLabel : List ℕ → Type 0
IsLabel bs = (1 ≤ length bs) × (length bs ≤ 80) × All IsShownByte bs

-- every label has 1 to 80 bytes that can be shown
abbrev pub AreShownLabels : List (Option (List ℕ)) → Type 0
AreShownLabels labels = (v : ℕ) (bs : List ℕ) → slice_get labels v ≡ Some (Some bs) → IsLabel bs

-- every listed edge is there
abbrev pub AreListed : Graph → List (List ℕ) → Type 0
AreListed g orders = (v e : ℕ) → v < g.vertices → In e (slice_index_or orders v []) → e < length g.ends

-- the tables fit together
pub record IsConsistent (g : InputGraph) : Type 0 where
  pub few_vertices : g.graph.vertices < 2 ^ 30
  pub few_edges : length g.graph.ends < 2 ^ 30
  pub vertex_names : length g.vertex_names ≡ g.graph.vertices
  pub edge_names : length g.edge_names ≡ length g.graph.ends
  pub lengths : length g.lengths ≡ length g.graph.ends
  pub rows : All IsLength g.lengths
  pub labels : length g.labels ≡ g.graph.vertices
  pub orders : length g.orders ≡ g.graph.vertices
  pub different : AreDifferent g.vertex_names
  pub edges_different : AreDifferent g.edge_names
  pub shown : AreShownLabels g.labels
  pub listed : AreListed g.graph g.orders
  pub outer : IfSome g.outer (λ d. d < 2 * length g.graph.ends)
