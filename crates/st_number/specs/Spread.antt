-- Rows that edges take: their lengths, and two or more where another edge has the same ends.
--   AreSpreadRows g lengths rows     each edge has its length, or 2 if that is more and the edge has a parallel
--   AreSpreadBy lengths flags n rows   the rows of the first n edges, by flags
-- Letters: g embedded graph, e edge, n number.
use Rattle.std.specs.Prelude.{ℕ, ◌≡◌, ◌<◌, Bool, false, cond, List, length, max, slice_index, slice_index_or}
use Rattle.st_map.specs.Embedded.{Embedded, edges}
use Rattle.st_number.specs.Parallel.{HasParallel}

-- An entry for each edge: the greater of 2 and its length where another edge has its tail and its head, else its length.
pub record AreSpreadRows (g : Embedded) (lengths rows : List ℕ) : Type 0 where
  pub size : length rows ≡ edges g
  pub parallel : (e : ℕ) → e < edges g → HasParallel g e → slice_index rows e ≡ max 2 (slice_index lengths e)
  pub alone : (e : ℕ) → e < edges g → (HasParallel g e → ⊥) → slice_index rows e ≡ slice_index lengths e

-- the rows of the first n edges, by flags that tell which edges have a parallel (for proofs)
pub record AreSpreadBy (lengths : List ℕ) (flags : List Bool) (n : ℕ) (rows : List ℕ) : Type 0 where
  pub size : length rows ≡ n
  pub each : (e : ℕ) → e < n → slice_index rows e ≡ cond (slice_index_or flags e false) (max 2 (slice_index lengths e)) (slice_index lengths e)
