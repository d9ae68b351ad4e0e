-- Walks along the edges of a graph whatever their directions.
-- Letters: g graph, e edge, u v w vertices, all by number.
--   Joins g e u w                e leads from u to w in one of its two directions
--   UndirectedWalk g Ok u es v   a walk along the edges in either direction, all of whose vertices have the property
--   IsJoined g Ok u v            there is one
--   IsConnected g s              one joins each vertex to s
use Rattle.std.specs.Prelude.{ℕ, ◌≡◌, ◌⊎◌, ◌<◌, List, [], ◌∷◌, length}
use Rattle.st_ids.specs.Graph.{Graph, tail_of, head_of}

-- e leads from u to w in one of its two directions
pub record Joins (g : Graph) (e u w : ℕ) : Type 0 where
  pub arc : e < length g.ends
  pub ends : ((tail_of g.ends e ≡ u) × (head_of g.ends e ≡ w)) ⊎ ((head_of g.ends e ≡ u) × (tail_of g.ends e ≡ w))

-- a walk along the edges in either direction, all of whose vertices have the property
pub data UndirectedWalk (g : Graph) (Ok : ℕ → Type 0) : ℕ → List ℕ → ℕ → Type 0 where
  rest : {u v : ℕ} → Ok u → u ≡ v → UndirectedWalk g Ok u [] v
  pass : {u w v e : ℕ} {es : List ℕ} → Ok u → Joins g e u w → UndirectedWalk g Ok w es v → UndirectedWalk g Ok u (e ∷ es) v

-- there is such a walk
pub record IsJoined (g : Graph) (Ok : ℕ → Type 0) (u v : ℕ) : Type 0 where
  pub way : List ℕ
  pub trail : UndirectedWalk g Ok u way v

-- a walk joins each vertex to s
abbrev pub IsConnected : Graph → ℕ → Type 0
IsConnected g s = (v : ℕ) → v < g.vertices → IsJoined g (λ _. Unit {0}) v s
