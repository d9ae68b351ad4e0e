-- A pass along the edges of a graph in an order in which all edges into a tail come first.
--   IsEdgeOrder ends es         each edge once, after all edges into its tail
--   IsPassing n ends w es h k   the state after the first k edges
--   IsPassTable n ends w h      what the whole pass gives
-- Letters: n how many vertices, ends the tails and heads of the edges, es the edges in order, w weights, h the numbers of
-- the vertices, k place in es.
use Rattle.std.specs.Prelude.{ℕ, ◌≡◌, ◌≢◌, ◌⊎◌, ◌+◌, ◌*◌, ◌<◌, ◌≤◌, List, length, slice_index}
use Rattle.st_ids.specs.Graph.{tail_of, head_of}

-- each edge once, after all edges into its tail
pub record IsEdgeOrder (ends : List (ℕ × ℕ)) (es : List ℕ) : Type 0 where
  pub size : length es ≡ length ends
  pub there : (k : ℕ) → k < length es → slice_index es k < length ends
  pub place : (e : ℕ) → e < length ends → (k : ℕ) × (k < length es) × (slice_index es k ≡ e)
  pub apart : (i k : ℕ) → i < k → k < length es → slice_index es i ≢ slice_index es k
  pub after : (k d : ℕ) → k < length es → d < length ends → head_of ends d ≡ tail_of ends (slice_index es k)
      → (i : ℕ) × (i < k) × (slice_index es i ≡ d)

-- Of the first k edges: no vertex has less than what one of them brings to it, and it has what one of them brings unless
-- it has 0.
pub record IsPassing (n : ℕ) (ends : List (ℕ × ℕ)) (w : ℕ → ℕ) (most : ℕ) (es h : List ℕ) (k : ℕ) : Type 0 where
  pub size : length h ≡ n
  pub enough : (j : ℕ) → j < k → slice_index h (tail_of ends (slice_index es j)) + w (slice_index es j) ≤ slice_index h (head_of ends (slice_index es j))
  pub brought : (v : ℕ) → v < n → (slice_index h v ≡ 0) ⊎ ((j : ℕ) × (j < k) × (head_of ends (slice_index es j) ≡ v)
      × (slice_index h v ≡ slice_index h (tail_of ends (slice_index es j)) + w (slice_index es j)))
  pub low : (v : ℕ) → slice_index h v ≤ k * most

-- the same of all edges
pub record IsPassTable (n : ℕ) (ends : List (ℕ × ℕ)) (w : ℕ → ℕ) (h : List ℕ) : Type 0 where
  pub size : length h ≡ n
  pub enough : (e : ℕ) → e < length ends → slice_index h (tail_of ends e) + w e ≤ slice_index h (head_of ends e)
  pub brought : (v : ℕ) → v < n → (slice_index h v ≡ 0)
      ⊎ ((e : ℕ) × (e < length ends) × (head_of ends e ≡ v) × (slice_index h v ≡ slice_index h (tail_of ends e) + w e))
