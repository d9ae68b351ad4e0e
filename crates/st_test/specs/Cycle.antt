-- The cycle that a refusal names.
-- Letters: g graph, v vertex, e edge, es list of edges, all by number; k number of steps back.
--   EndsLong g v           a walk of as many edges as there are vertices ends at v
--   IsFirstEdgeBack g v e  e is the edge along which one goes back from v
--   back_list b f k        the edges b (f + k - 1), .., b (f + 1), b f
--   IsNamedCycle g es      es is the cycle that is named
--   IsLoop g es            es is a closed walk of at least one edge
-- Stated by walks; the code takes vertices without an edge in away, and what is left are those at which long walks end.
use Rattle.std.specs.Prelude.{ℕ, zero, suc, ◌≡◌, ◌≢◌, ◌+◌, ◌-◌, ◌<◌, ◌≤◌, List, [], ◌∷◌, length}
use Rattle.st_ids.specs.Graph.{Graph, tail_of, head_of, arcs_of}
use Rattle.st_ids.specs.Walks.{Walk}

-- a walk of as many edges as there are vertices ends at v
abbrev pub EndsLong : Graph → ℕ → Type 0
EndsLong g v = (u : ℕ) × (es : List ℕ) × Walk (arcs_of g) u es v × (length es ≡ g.vertices)

-- e is the first edge in file order that comes to v from a vertex at which such a walk ends
pub record IsFirstEdgeBack (g : Graph) (v e : ℕ) : Type 0 where
  pub there : e < length g.ends
  pub into : head_of g.ends e ≡ v
  pub from : EndsLong g (tail_of g.ends e)
  pub first : (d : ℕ) → d < e → head_of g.ends d ≡ v → EndsLong g (tail_of g.ends d) → ⊥

-- the edges b (f + k - 1), .., b (f + 1), b f
abbrev pub back_list : (ℕ → ℕ) → ℕ → ℕ → List ℕ
back_list b f zero = []
back_list b f (suc k) = b (f + k) ∷ back_list b f k

-- Going back from the first vertex at which a long walk ends passes the vertices c 0, c 1, .. by the edges b 0, b 1, ..;
-- c j is the first that comes a second time, and it came first as c i; c f is the first in file order of c i, .., c (j - 1).
-- The edges of this loop are listed from c f on.
pub record IsNamedCycle (g : Graph) (es : List ℕ) : Type 0 where
  pub c : ℕ → ℕ
  pub b : ℕ → ℕ
  pub i : ℕ
  pub j : ℕ
  pub f : ℕ
  pub begins : EndsLong g (c 0)
  pub begins_first : (v : ℕ) → v < c 0 → EndsLong g v → ⊥
  pub back : (k : ℕ) → IsFirstEdgeBack g (c k) (b k)
  pub goes : (k : ℕ) → c (suc k) ≡ tail_of g.ends (b k)
  pub loops : i < j
  pub again : c j ≡ c i
  pub apart : (x y : ℕ) → x < y → y < j → c x ≢ c y
  pub on_loop : i ≤ f
  pub on_loop_too : f < j
  pub least : (k : ℕ) → i ≤ k → k < j → c f ≤ c k
  pub edges : es ≡ back_list b f (j - i)

-- a walk of at least one edge from a vertex to itself
abbrev pub IsLoop : Graph → List ℕ → Type 0
IsLoop g es = (u : ℕ) × Walk (arcs_of g) u es u × (0 < length es)
