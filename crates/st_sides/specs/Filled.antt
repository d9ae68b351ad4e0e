-- Tables, and where runs begin.
-- Letters: g graph, s source, t sink, outer an end on the outer face, v vertex, d end.
--   IsFilled other P n xs     xs has n entries, and the entry at i has P i
--   node_number outer half label   the node of a face with this number
--   key g face d              the number of the end's face, or its vertex
--   AreStarts g face m xs     for each end in below m that leads to an end out, xs has such an end out under the same key
--   label_of f outer count   the number of the face of node f
--   Begins g s t outer v x    x is the end at v where its list of edges out begins, or at the sink that of its edges in
use Rattle.std.specs.Prelude.{ℕ, ◌≡◌, ◌≢◌, ◌⊎◌, ◌+◌, ◌-◌, ◌<◌, ◌==◌, ◌||◌, Bool, true, false, cond, nat_lt, List, length, slice_index, slice_index_or}
use Rattle.st_ids.specs.Ends.{is_out}
use Rattle.st_map.specs.Embedded.{Embedded, at, darts, face, faces, next}
use Rattle.st_test.specs.FaceNumbers.{orbit_number}
use Rattle.st_sides.specs.Rounds.{round}

-- n entries, each as told
pub record IsFilled {A : Type 0} (other : A) (P : ℕ → A → Type 0) (n : ℕ) (xs : List A) : Type 0 where
  pub size : length xs ≡ n
  pub each : (i : ℕ) → i < n → P i (slice_index_or xs i other)

-- the outer face is left out of the numbers and stands for the node half; the others count from 1
abbrev pub node_number : ℕ → ℕ → ℕ → ℕ
node_number outer half label = cond (label == outer) half (cond (nat_lt label outer) (label + 1) label)

-- the face of an end by number, or its vertex
abbrev pub key : Embedded → Bool → ℕ → ℕ
key g true d = orbit_number g d
key g false d = at g d

-- how many keys there are
abbrev pub keys : Embedded → Bool → ℕ
keys g true = faces g
keys g false = g.vertices

-- an end in that leads to an end out with the key v, which is entered under v
pub record Start (g : Embedded) (b : Bool) (m : ℕ) (xs : List ℕ) (v : ℕ) : Type 0 where
  pub c : ℕ
  pub below : c < m
  pub is_in : is_out c ≡ false
  pub then_out : is_out (round g b c) ≡ true
  pub of : key g b (round g b c) ≡ v
  pub entry : slice_index xs v ≡ round g b c

pub record AreStarts (g : Embedded) (b : Bool) (m : ℕ) (xs : List ℕ) : Type 0 where
  pub size : length xs ≡ keys g b
  pub found : (c : ℕ) → c < m → is_out c ≡ false → is_out (round g b c) ≡ true → Start g b m xs (key g b (round g b c))

-- the end at v where its list begins
pub record Begins (g : Embedded) (s t outer v x : ℕ) : Type 0 where
  pub there : x < darts g
  pub at_v : at g x ≡ v
  pub inner : v ≢ s → v ≢ t → (c : ℕ) × (c < darts g) × (is_out c ≡ false) × (next g c ≡ x) × (is_out x ≡ true)
  pub pole : (v ≡ s) ⊎ (v ≡ t) → face g x ≡ face g outer

-- the number of the face of node f, where there are count faces and the outer one has the number outer
abbrev pub label_of : ℕ → ℕ → ℕ → ℕ
label_of f outer count = cond ((f == 0) || (f == count)) outer (cond (nat_lt (f - 1) outer) (f - 1) f)
