-- What the parts of the search for a cycle compute.
-- Letters: n number of vertices, order the vertices taken away, left a mark for each that is left, back the edge back from
-- each, passed the vertices on the way back, place the place of each vertex on that way.
--   is_left, AreLeft, AreLeftAt    whether a vertex is left; the marks of all; the same of the order's front
--   ComesIn, AreBacks              an edge comes from a vertex that is left; the first such edge of each vertex
--   parent, IsClosed               the vertex to which one goes back; it is left too
--   IsTrail, IsTracing             the way back up to the repeat, and before it
--   IsLeastPlace                   the place of the least vertex from a place on
--   wrapped, looped                the steps on a loop beyond its end, and the edges back along it
--   AllListed                      each vertex was taken away
use Rattle.std.specs.Prelude.{ℕ, ◌≡◌, ◌≢◌, ◌⊎◌, ◌-◌, ◌^◌, ◌<◌, ◌≤◌, Bool, true, false, cond, nat_lt, List, length, slice_index, slice_index_or}
use Rattle.st_ids.specs.Graph.{tail_of, head_of}
use Rattle.st_map.specs.Orbits.{iterate}

-- whether the vertex is left
abbrev pub is_left : List Bool → ℕ → Bool
is_left left v = slice_index_or left v false

-- the vertices that are not in the list
pub record AreLeft (n : ℕ) (order : List ℕ) (left : List Bool) : Type 0 where
  pub size : length left ≡ n
  pub out : (v k : ℕ) → v < n → is_left left v ≡ true → k < length order → slice_index order k ≢ v
  pub listed : (v : ℕ) → v < n → is_left left v ≡ false → (k : ℕ) × (k < length order) × (slice_index order k ≡ v)

-- the same of the list's first k
pub record AreLeftAt (n : ℕ) (order : List ℕ) (left : List Bool) (i : ℕ) : Type 0 where
  pub size : length left ≡ n
  pub out : (v k : ℕ) → v < n → is_left left v ≡ true → k < i → slice_index order k ≢ v
  pub listed : (v : ℕ) → v < n → is_left left v ≡ false → (k : ℕ) × (k < i) × (slice_index order k ≡ v)

-- e comes to v from a vertex that is left
pub record ComesIn (ends : List (ℕ × ℕ)) (left : List Bool) (v e : ℕ) : Type 0 where
  pub into : head_of ends e ≡ v
  pub from : is_left left (tail_of ends e) ≡ true

-- for each vertex the first edge that comes to it from a vertex that is left, among the first m
pub record AreBacks (n : ℕ) (ends : List (ℕ × ℕ)) (left : List Bool) (m : ℕ) (back : List ℕ) : Type 0 where
  pub size : length back ≡ n
  pub found : (v : ℕ) → v < n → slice_index back v < m → ComesIn ends left v (slice_index back v)
  pub first : (v d : ℕ) → v < n → d < m → d < slice_index back v → ComesIn ends left v d → ⊥
  pub mark : (v : ℕ) → v < n → (slice_index back v < m) ⊎ (slice_index back v ≡ 2 ^ 32 - 1)

-- the vertex to which one goes back
abbrev pub parent : List (ℕ × ℕ) → List ℕ → ℕ → ℕ
parent ends back v = tail_of ends (slice_index back v)

-- each vertex that is left has an edge back to one that is left
pub record IsClosed (n : ℕ) (ends : List (ℕ × ℕ)) (left : List Bool) (back : List ℕ) : Type 0 where
  pub size : length back ≡ n
  pub edge : (v : ℕ) → v < n → is_left left v ≡ true → slice_index back v < length ends
  pub vertex : (v : ℕ) → v < n → is_left left v ≡ true → parent ends back v < n
  pub stays : (v : ℕ) → v < n → is_left left v ≡ true → is_left left (parent ends back v) ≡ true

-- the vertices that are passed on the way back, up to the first that comes a second time
pub record IsTrail (ends : List (ℕ × ℕ)) (back : List ℕ) (start : ℕ) (passed : List ℕ) (first : ℕ) : Type 0 where
  pub each : (k : ℕ) → k < length passed → slice_index passed k ≡ iterate k (parent ends back) start
  pub loops : first < length passed
  pub again : iterate (length passed) (parent ends back) start ≡ iterate first (parent ends back) start
  pub apart : (a b : ℕ) → a < b → b < length passed → slice_index passed a ≢ slice_index passed b

-- the way back before a vertex comes a second time: v is the next, and the marks are places on the way
pub record IsTracing (n : ℕ) (ends : List (ℕ × ℕ)) (left : List Bool) (back : List ℕ) (start : ℕ) (passed place : List ℕ) (v : ℕ) : Type 0 where
  pub size : length place ≡ n
  pub each : (k : ℕ) → k < length passed → slice_index passed k ≡ iterate k (parent ends back) start
  pub now : v ≡ iterate (length passed) (parent ends back) start
  pub below : v < n
  pub is_one : is_left left v ≡ true
  pub within : (k : ℕ) → k < length passed → slice_index passed k < n
  pub marked : (k : ℕ) → k < length passed → slice_index place (slice_index passed k) ≡ k
  pub marks : (w : ℕ) → w < n → (slice_index place w ≡ 2 ^ 32 - 1) ⊎ ((slice_index place w < length passed) × (slice_index passed (slice_index place w) ≡ w))

-- r is the place of the least from a place on
pub record IsLeastPlace (passed : List ℕ) (from r : ℕ) : Type 0 where
  pub after : from ≤ r
  pub there : r < length passed
  pub least : (k : ℕ) → from ≤ k → k < length passed → slice_index passed r ≤ slice_index passed k

-- the place of step k on a loop of so many steps that ends before a place
abbrev pub wrapped : ℕ → ℕ → ℕ → ℕ
wrapped end round k = cond (nat_lt k end) k (k - round)

-- the edge back from the vertex of step k
abbrev pub looped : List ℕ → List ℕ → ℕ → ℕ → ℕ
looped passed back first k = slice_index back (slice_index passed (wrapped (length passed) (length passed - first) k))

-- each vertex is in the list
abbrev pub AllListed : ℕ → List ℕ → Type 0
AllListed n order = (v : ℕ) → v < n → (k : ℕ) × (k < length order) × (slice_index order k ≡ v)
