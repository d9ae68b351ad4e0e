-- A list that is held in chunks, one after the other.
-- Letters: cs the chunks, c the number of one of them, b how many elements stand before it.
--   IsSpot cs c b       chunk c is there, and b elements stand before it
--   Holds cs c b p      moreover it has the element at place p of the whole list
--   IsChunked cs n c b  the whole list has n elements, and b of them stand before chunk c
use Rattle.std.specs.Prelude.{ℕ, List, [], ◌≡◌, ◌<◌, ◌≤◌, ◌+◌, ◌^◌, length, take, slice_index_or}
use Rattle.std.specs.List.{concat}

-- chunk c is there, and b elements stand before it
pub record IsSpot (cs : List (List ℕ)) (c b : ℕ) : Type 0 where
  pub there : c < length cs
  pub before : b ≡ length (concat (take c cs))

-- chunk c has the element at place p
pub record Holds (cs : List (List ℕ)) (c b p : ℕ) : Type 0 where
  pub there : c < length cs
  pub before : b ≡ length (concat (take c cs))
  pub from : b ≤ p
  pub to : p < b + length (slice_index_or cs c [])

-- the whole list has n elements, of which b stand before chunk c
pub record IsChunked (cs : List (List ℕ)) (n c b : ℕ) : Type 0 where
  pub length_is : n ≡ length (concat cs)
  pub few : n < 2 ^ 32
  pub spot : IsSpot cs c b
