-- Vertices that cut off others, and orders between two poles.
-- Letters: g graph, e edge, u v w c vertices, all by number; s and t the poles; vs the visited vertices in their order.
--   CutsOff g s t c v  no undirected walk that avoids c leads from v to s or to t
--   IsFirstCut         the first such c, and for it the first such v
--   IsStNumbering         numbers of the vertices by which the edges can be turned
--   IsVisited          what a depth-first search delivers
use Rattle.std.specs.Prelude.{ℕ, ◌≡◌, ◌≢◌, ◌<◌, List, length, slice_index}
use Rattle.st_ids.specs.Graph.{Graph, tail_of, head_of}
use Rattle.st_ids.specs.Undirected.{Joins, IsJoined}
use Rattle.st_bipolar.specs.Search.{IsSearch, IsLow}

-- v is none of c, s and t, and each undirected walk from v to s or t goes through c
pub record CutsOff (g : Graph) (s t c v : ℕ) : Type 0 where
  pub cut_in : c < g.vertices
  pub apart_in : v < g.vertices
  pub not_cut : v ≢ c
  pub not_s : v ≢ s
  pub not_t : v ≢ t
  pub no_s : IsJoined g (λ x. x ≢ c) v s → ⊥
  pub no_t : IsJoined g (λ x. x ≢ c) v t → ⊥

-- the first vertex that cuts off another one, and the first that it cuts off
pub record IsFirstCut (g : Graph) (s t c v : ℕ) : Type 0 where
  pub cuts : CutsOff g s t c v
  pub first_cut : (b u : ℕ) → b < c → CutsOff g s t b u → ⊥
  pub first_apart : (u : ℕ) → u < v → CutsOff g s t c u → ⊥

-- Numbers of the vertices by which the edges can be turned: other than s and t, each vertex has a neighbour with a
-- smaller number and one with a greater, s has only greater neighbours and at least one, t only smaller.
pub record IsStNumbering (g : Graph) (s t : ℕ) (r : ℕ → ℕ) : Type 0 where
  pub apart : (e : ℕ) → e < length g.ends → r (tail_of g.ends e) ≢ r (head_of g.ends e)
  pub least : (e w : ℕ) → Joins g e s w → r s < r w
  pub greatest : (e w : ℕ) → Joins g e t w → r w < r t
  pub below : (v : ℕ) → v < g.vertices → v ≢ s → (e : ℕ) × (w : ℕ) × Joins g e v w × (r w < r v)
  pub above : (v : ℕ) → v < g.vertices → v ≢ t → (e : ℕ) × (w : ℕ) × Joins g e v w × (r v < r w)

-- an edge joins the vertices at two places of the list
abbrev pub Meets : Graph → List ℕ → ℕ → ℕ → Type 0
Meets g vs k x = (e : ℕ) × Joins g e (slice_index vs k) (slice_index vs x)

-- The vertices in the order of their first visits, and for each place in it the places of the parent and of the low
-- point.
pub record IsVisited (g : Graph) (s t : ℕ) (vs parent low : List ℕ) : Type 0 where
  pub parents_size : length parent ≡ length vs
  pub lows_size : length low ≡ length vs
  pub source : slice_index vs 0 ≡ s
  pub sink : slice_index vs 1 ≡ t
  pub within : (k : ℕ) → k < length vs → slice_index vs k < g.vertices
  pub apart : (i k : ℕ) → i < k → k < length vs → slice_index vs i ≢ slice_index vs k
  pub closed : (k e w : ℕ) → k < length vs → Joins g e (slice_index vs k) w → (x : ℕ) × (x < length vs) × (slice_index vs x ≡ w)
  pub search : IsSearch (length vs) (Meets g vs) (slice_index parent)
  pub lows : IsLow (length vs) (Meets g vs) (slice_index parent) (slice_index low)

-- each vertex was visited
abbrev pub HasAll : Graph → List ℕ → Type 0
HasAll g vs = (v : ℕ) → v < g.vertices → (k : ℕ) × (k < length vs) × (slice_index vs k ≡ v)
