-- The poles of a directed graph: the one vertex that no edge enters, and the one that no edge leaves.
-- Letters: g graph, v vertex, e edge, s source, t sink, all by number.
--   NoneIn g v, NoneOut g v             no edge comes to v, no edge leaves v
--   IsOnlySource g s, IsOnlySink g t    s is the one vertex without an edge in, t the one without an edge out
--   ArePoles g s t                      all four tests on the graph hold, and s and t are its poles
--   graph_of n ends                     the graph of n vertices with these ends
use Rattle.std.specs.Prelude.{ℕ, ◌≡◌, ◌≢◌, ◌<◌, ◌≤◌, List, length}
use Rattle.st_ids.specs.Graph.{Graph, tail_of, head_of, arcs_of}
use Rattle.st_ids.specs.Walks.{IsAcyclic}

-- no edge comes to v
abbrev pub NoneIn : Graph → ℕ → Type 0
NoneIn g v = (e : ℕ) → e < length g.ends → head_of g.ends e ≢ v

-- no edge leaves v
abbrev pub NoneOut : Graph → ℕ → Type 0
NoneOut g v = (e : ℕ) → e < length g.ends → tail_of g.ends e ≢ v

-- s is the one vertex that no edge enters
pub record IsOnlySource (g : Graph) (s : ℕ) : Type 0 where
  pub there : s < g.vertices
  pub none_in : NoneIn g s
  pub only : (v : ℕ) → v < g.vertices → NoneIn g v → v ≡ s

-- t is the one vertex that no edge leaves
pub record IsOnlySink (g : Graph) (t : ℕ) : Type 0 where
  pub there : t < g.vertices
  pub none_out : NoneOut g t
  pub only : (v : ℕ) → v < g.vertices → NoneOut g v → v ≡ t

-- at least two vertices, no cycle, one source, one sink
pub record ArePoles (g : Graph) (s t : ℕ) : Type 0 where
  pub two : 2 ≤ g.vertices
  pub no_cycle : IsAcyclic (arcs_of g)
  pub source : IsOnlySource g s
  pub sink : IsOnlySink g t

-- the graph of n vertices with these ends
abbrev pub graph_of : ℕ → List (ℕ × ℕ) → Graph
graph_of n ends = record { vertices = n; ends = ends }
