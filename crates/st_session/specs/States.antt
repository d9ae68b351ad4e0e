-- The state that a session stands for.
-- Letters: names list of names, name a name, i place, x state.
--   IsNameAt names i name     the name stands at the place
--   HasName names name        the name stands at some place
--   LacksName names name      the name stands at no place
--   HasEachOnce names         no name stands twice
--   SessionState                     a graph with its lists, the names of its vertices and edges, and an outer end
--   SessionValue              a state, and the limits of its session
--   IsState x                 a planar st-graph for some poles, with one name for each vertex and edge, and names that differ
use Rattle.std.specs.Prelude.{ℕ, ℤ, ◌≡◌, ◌≢◌, List, Some, length, slice_get}
use Rattle.st_map.specs.Embedded.{Embedded, edges}
use Rattle.st_test.specs.Planar.{IsPlanarSt}

-- the name stands at the place
abbrev pub IsNameAt : List ℤ → ℕ → ℤ → Type 0
IsNameAt names i name = slice_get names i ≡ Some name

-- the name stands at some place
abbrev pub HasName : List ℤ → ℤ → Type 0
HasName names name = (i : ℕ) × IsNameAt names i name

-- the name stands at no place
abbrev pub LacksName : List ℤ → ℤ → Type 0
LacksName names name = (i : ℕ) → slice_get names i ≢ Some name

-- no name stands twice
abbrev pub HasEachOnce : List ℤ → Type 0
HasEachOnce names = (i j : ℕ) (name : ℤ) → slice_get names i ≡ Some name → slice_get names j ≡ Some name → i ≡ j

pub record SessionState : Type 0 where
  pub graph : Embedded
  -- the name of each vertex and of each edge
  pub vertex_names : List ℤ
  pub edge_names : List ℤ
  -- an end of the outer face
  pub outer : ℕ

pub record SessionValue : Type 0 where
  pub state : SessionState
  -- how many vertices and edges there are at most
  pub max_vertices : ℕ
  pub max_edges : ℕ

-- The outer face is that of the outer end.
pub record IsState (x : SessionState) : Type 0 where
  pub source : ℕ
  pub sink : ℕ
  pub planar : IsPlanarSt x.graph source sink x.outer
  pub vertices : length x.vertex_names ≡ x.graph.vertices
  pub edges : length x.edge_names ≡ edges x.graph
  pub vertices_differ : HasEachOnce x.vertex_names
  pub edges_differ : HasEachOnce x.edge_names
