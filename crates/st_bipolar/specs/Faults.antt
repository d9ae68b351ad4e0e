-- What the search tells about faults: vertices that are apart from the first pole, and vertices that cut off others.
-- Letters: n number of vertices, vs the visited ones, marks whether the vertex with a number is marked, starts where
-- the marks begin.
--   is_marked marks k   whether k is marked
--   IsSpread            what is at or below a start is marked, and nothing else
--   IsKept              v was visited, and isn't marked
--   IsOff               v isn't kept
--   IsJoint             the low point of a child of j is j
--   IsFirstJoint        of all joints it has the least vertex
--   IsFirstApart        the first vertex that no undirected walk joins to s
use Rattle.std.specs.Prelude.{ℕ, ◌≡◌, ◌≢◌, ◌<◌, ◌≤◌, Bool, true, false, List, length, slice_index, slice_index_or}
use Rattle.st_ids.specs.Graph.{Graph}
use Rattle.st_bipolar.specs.Search.{Above}
use Rattle.st_ids.specs.Undirected.{IsJoined}

abbrev pub is_marked : List Bool → ℕ → Bool
is_marked marks k = slice_index_or marks k false

pub record IsSpread (n : ℕ) (p : ℕ → ℕ) (starts marks : List Bool) : Type 0 where
  pub size : length marks ≡ length starts
  pub from : (k : ℕ) → k < n → is_marked marks k ≡ true → (b : ℕ) × (is_marked starts b ≡ true) × Above p b k
  pub all : (b k : ℕ) → k < n → is_marked starts b ≡ true → Above p b k → is_marked marks k ≡ true

abbrev pub IsKept : List ℕ → List Bool → ℕ → Type 0
IsKept vs marks v = (k : ℕ) × (k < length vs) × (slice_index vs k ≡ v) × (is_marked marks k ≡ false)

abbrev pub IsOff : List ℕ → List Bool → ℕ → Type 0
IsOff vs marks v = (k : ℕ) → k < length vs → slice_index vs k ≡ v → is_marked marks k ≡ true

abbrev pub IsJoint : ℕ → (ℕ → ℕ) → (ℕ → ℕ) → ℕ → Type 0
IsJoint n p low j = (k : ℕ) × (2 ≤ k) × (k < n) × (p k ≡ j) × (low k ≡ j)

pub record IsFirstJoint (vs : List ℕ) (p low : ℕ → ℕ) (j : ℕ) : Type 0 where
  pub joint : IsJoint (length vs) p low j
  pub first : (i : ℕ) → IsJoint (length vs) p low i → slice_index vs j ≤ slice_index vs i

-- the first vertex that no undirected walk joins to s
pub record IsFirstApart (g : Graph) (s v : ℕ) : Type 0 where
  pub within : v < g.vertices
  pub apart : IsJoined g (λ _. Unit {0}) v s → ⊥
  pub first : (u : ℕ) → u < v → IsJoined g (λ _. Unit {0}) u s

-- the marks are those of the children of j, from 2 on, whose low point is j
pub record AreBranches (n : ℕ) (p low : ℕ → ℕ) (j : ℕ) (marks : List Bool) : Type 0 where
  pub size : length marks ≡ n
  pub only : (k : ℕ) → is_marked marks k ≡ true → (2 ≤ k) × (k < n) × (p k ≡ j) × (low k ≡ j)
  pub all : (k : ℕ) → 2 ≤ k → k < n → p k ≡ j → low k ≡ j → is_marked marks k ≡ true

-- 1 is marked where its low point isn't 0, and nothing else is
pub record IsSecond (low : ℕ → ℕ) (marks : List Bool) : Type 0 where
  pub only : (k : ℕ) → is_marked marks k ≡ true → (k ≡ 1) × (low 1 ≢ 0)
  pub all : low 1 ≢ 0 → is_marked marks 1 ≡ true
