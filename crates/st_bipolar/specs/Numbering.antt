-- The numbers of the vertices, from the places of their numbers.
--   AreRankNumbers n vs ranks m numbers  each of the first m vertices of vs has the entry that stands beside it in ranks
use Rattle.std.specs.Prelude.{ℕ, ◌≡◌, ◌<◌, List, length, slice_index}

pub record AreRankNumbers (n : ℕ) (vs ranks : List ℕ) (m : ℕ) (numbers : List ℕ) : Type 0 where
  pub size : length numbers ≡ n
  pub each : (k : ℕ) → k < m → slice_index numbers (slice_index vs k) ≡ slice_index ranks k
