-- Parallel edges.
--   HasParallel g e        another edge has the tail and the head of e
--   AreParallel g flags    the flags tell of each edge whether it has a parallel
--   noted_at m q          the edge that a map has at a pair of ends
--   IsMarking g noted flags k   the state of a pass over the edges, of which the first k are done
-- Letters: g embedded graph, e and d edges.
use Rattle.std.specs.Prelude.{ℕ, ◌≡◌, ◌≢◌, ◌↔◌, ◌<◌, Bool, true, List, length, slice_get, Option, Some}
use Rattle.std.specs.BTreeMap.{BTreeMap, get}
use Rattle.std.specs.Ordering.{nat_cmp, ordering_then}
use Rattle.std.specs.declared.cmp.Ordering.{Ordering}
use Rattle.st_ids.specs.declared.ids.EdgeId.{EdgeId}
use Rattle.st_map.specs.Embedded.{Embedded, edges, tail, head}

-- d is another edge than e from the same tail to the same head
pub record IsParallel (g : Embedded) (e d : ℕ) : Type 0 where
  pub other : d ≢ e
  pub tails : tail g d ≡ tail g e
  pub heads : head g d ≡ head g e

-- some edge is parallel to e
abbrev pub HasParallel : Embedded → ℕ → Type 0
HasParallel g e = (d : ℕ) × (d < edges g) × IsParallel g e d

-- a flag for each edge, which is true exactly where the edge has a parallel
pub record AreParallel (g : Embedded) (flags : List Bool) : Type 0 where
  pub size : length flags ≡ edges g
  pub exact : (e : ℕ) → e < edges g → slice_get flags e ≡ Some true ↔ HasParallel g e

-- how a map orders pairs of numbers
abbrev pub compare_ends : (ℕ × ℕ) → (ℕ × ℕ) → Ordering
compare_ends x y = ordering_then (nat_cmp x.0 y.0) (nat_cmp x.1 y.1)

-- the edge that a map has at a pair of ends
abbrev pub noted_at : BTreeMap (ℕ × ℕ) EdgeId → (ℕ × ℕ) → Option EdgeId
noted_at m q = get compare_ends m q

-- Of the first k edges: one with each pair of ends is noted, and those that have a parallel among them are marked.
pub record IsMarking (g : Embedded) (noted : (ℕ × ℕ) → Option EdgeId) (flags : List Bool) (k : ℕ) : Type 0 where
  pub size : length flags ≡ edges g
  pub known : (d : ℕ) → d < k → (f : EdgeId) × (noted (tail g d, head g d) ≡ Some f)
  pub told : (q : ℕ × ℕ) (f : EdgeId) → noted q ≡ Some f → (f.0 < k) × (tail g f.0 ≡ q.0) × (head g f.0 ≡ q.1)
  pub sound : (d : ℕ) → d < edges g → slice_get flags d ≡ Some true → HasParallel g d
  pub marked : (d e : ℕ) → d < k → e < k → IsParallel g d e → slice_get flags d ≡ Some true
