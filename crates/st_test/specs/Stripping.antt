-- Vertices taken away one by one, each when no edge comes to it from a vertex that is left.
-- Letters: n number of vertices, ends the tail and head of each edge, v vertex, e edge, es list of edges.
--   last_below n p               one more than the last number below n that passes p, and 0 where none does
--   AreChains                    the edges out of each vertex as links, from the last to the first
--   AreInDegrees, AreOutDegrees  how many edges come to each vertex, or leave it
--   IsStripped                   the vertices that were taken away, in that order, with the edges out of them
use Rattle.std.specs.Prelude.{ℕ, zero, suc, ◌≡◌, ◌≢◌, ◌<◌, ◌==◌, Bool, cond, List, length, slice_index}
use Rattle.st_ids.specs.Graph.{tail_of, head_of}
use Rattle.st_map.specs.Counting.{count_below}
use Rattle.st_map.specs.Tables.{enters, leaves}

-- one more than the last number below n that passes, and 0 where none does
abbrev pub last_below : ℕ → (ℕ → Bool) → ℕ
last_below zero p = zero
last_below (suc n) p = cond (p n) (suc n) (last_below n p)

-- the edges out of a vertex, from the last to the first
pub record AreChains (n : ℕ) (ends : List (ℕ × ℕ)) (last before : List ℕ) : Type 0 where
  pub last_size : length last ≡ n
  pub before_size : length before ≡ length ends
  pub lasts : (v : ℕ) → v < n → slice_index last v ≡ last_below (length ends) (leaves ends v)
  pub befores : (e : ℕ) → e < length ends → slice_index before e ≡ last_below e (leaves ends (tail_of ends e))

-- how many edges come to each vertex
pub record AreInDegrees (n : ℕ) (ends : List (ℕ × ℕ)) (degree : List ℕ) : Type 0 where
  pub size : length degree ≡ n
  pub each : (v : ℕ) → v < n → slice_index degree v ≡ count_below (length ends) (enters ends v)

-- how many edges leave each vertex
pub record AreOutDegrees (n : ℕ) (ends : List (ℕ × ℕ)) (degree : List ℕ) : Type 0 where
  pub size : length degree ≡ n
  pub each : (v : ℕ) → v < n → slice_index degree v ≡ count_below (length ends) (leaves ends v)

-- Each vertex in the order has the tails of all edges into it before it, and each vertex that is not in the order has an
-- edge into it from a vertex that is not in it. The edges are those out of the order's vertices, and each has all edges
-- into its tail before it.
pub record IsStripped (n : ℕ) (ends : List (ℕ × ℕ)) (order es : List ℕ) : Type 0 where
  pub vertices : (k : ℕ) → k < length order → slice_index order k < n
  pub apart : (i k : ℕ) → i < k → k < length order → slice_index order i ≢ slice_index order k
  pub before : (k e : ℕ) → k < length order → e < length ends → head_of ends e ≡ slice_index order k → (i : ℕ) × (i < k) × (slice_index order i ≡ tail_of ends e)
  pub rest : (v : ℕ) → v < n → ((k : ℕ) → k < length order → slice_index order k ≢ v)
      → (e : ℕ) × (e < length ends) × (head_of ends e ≡ v) × ((k : ℕ) → k < length order → slice_index order k ≢ tail_of ends e)
  pub edges : (k : ℕ) → k < length es → (slice_index es k < length ends) × (i : ℕ) × (i < length order) × (slice_index order i ≡ tail_of ends (slice_index es k))
  pub edges_all : (i e : ℕ) → i < length order → e < length ends → slice_index order i ≡ tail_of ends e → (k : ℕ) × (k < length es) × (slice_index es k ≡ e)
  pub edges_apart : (i k : ℕ) → i < k → k < length es → slice_index es i ≢ slice_index es k
  pub edges_before : (k d : ℕ) → k < length es → d < length ends → head_of ends d ≡ tail_of ends (slice_index es k) → (i : ℕ) × (i < k) × (slice_index es i ≡ d)
