-- The vertices and edges of a graph without a cycle, in an order that goes with its edges.
-- Letters: g graph, v vertex, d and e edges, vs list of vertices, es list of edges, all by number; i and k places.
--   vertex_numbers         the numbers of the vertices of a list
--   OrderLists             the two lists: of vertices, and of edges
--   IsTopologicalOrder     each vertex once, the tail of each edge before its head; each edge once, after all edges into its tail
--   AreOrdered             the same by places in the lists
use Rattle.std.specs.Prelude.{ℕ, ◌≡◌, ◌≢◌, ◌<◌, List, length, map, slice_index}
use Rattle.st_ids.specs.Graph.{Graph, tail_of, head_of}
use Rattle.st_ids.specs.Lists.{Lists, Precedes}
use Rattle.st_ids.specs.declared.ids.VertexId.{VertexId}

-- the numbers of the vertices of a list
abbrev pub vertex_numbers : List VertexId → List ℕ
vertex_numbers vs = map (λ v. v.0) vs

-- What a `TopologicalOrder` is seen as.
pub record OrderLists : Type 0 where
  pub vertices : List ℕ
  pub edges : List ℕ

-- vs has each vertex once, the tail of each edge before its head; es has each edge once, after all edges into its tail
pub record IsTopologicalOrder (g : Graph) (vs es : List ℕ) : Type 0 where
  pub vertices : Lists vs (λ v. v < g.vertices)
  pub along : (e : ℕ) → e < length g.ends → Precedes (tail_of g.ends e) (head_of g.ends e) vs
  pub edges : Lists es (λ e. e < length g.ends)
  pub edges_along : (d e : ℕ) → d < length g.ends → e < length g.ends → head_of g.ends d ≡ tail_of g.ends e → Precedes d e es

-- the same by places
pub record AreOrdered (g : Graph) (vs es : List ℕ) : Type 0 where
  pub vertex_count : length vs ≡ g.vertices
  pub vertex_there : (k : ℕ) → k < length vs → slice_index vs k < g.vertices
  pub vertex_place : (v : ℕ) → v < g.vertices → (k : ℕ) × (k < length vs) × (slice_index vs k ≡ v)
  pub vertices_apart : (i k : ℕ) → i < k → k < length vs → slice_index vs i ≢ slice_index vs k
  -- each edge into the vertex at a place comes from an earlier place
  pub vertex_after : (k e : ℕ) → k < length vs → e < length g.ends → head_of g.ends e ≡ slice_index vs k
      → (i : ℕ) × (i < k) × (slice_index vs i ≡ tail_of g.ends e)
  pub edge_count : length es ≡ length g.ends
  pub edge_there : (k : ℕ) → k < length es → slice_index es k < length g.ends
  pub edge_place : (e : ℕ) → e < length g.ends → (k : ℕ) × (k < length es) × (slice_index es k ≡ e)
  pub edges_apart : (i k : ℕ) → i < k → k < length es → slice_index es i ≢ slice_index es k
  -- each edge into the tail of the edge at a place stands at an earlier place
  pub edge_after : (k d : ℕ) → k < length es → d < length g.ends → head_of g.ends d ≡ tail_of g.ends (slice_index es k)
      → (i : ℕ) × (i < k) × (slice_index es i ≡ d)
