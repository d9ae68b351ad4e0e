-- The least faulty pair of items, found bit by bit.
--   NotLater p i j      the pair p is (i, j), or comes before it
--   Covers best i j     the best pair so far is not later than (i, j)
--   IsReal items best   the best pair so far is a faulty pair, if there is one
--   IsPairOf s t i j    i and j are the items of the two spans, in this order or in the other
--   IsBetter            the best pair after one pair more
--   IsBetterBeside      the best pair after the span at p was compared with those behind it
--   IsBest              the best pair of all whose spans overlap
use Rattle.std.specs.Prelude.{◌≡◌, ℕ, ◌<◌, ◌≤◌, ◌⊎◌, Option, Some, None, List, length, slice_get}
use Rattle.st_shape.specs.declared.item.Item.{Item}
use Rattle.st_shape.specs.Clean.{FaultyPair}
use Rattle.eps_check.specs.declared.pairs.Pair.{Pair}
use Rattle.eps_check.specs.declared.spans.Span.{Span}
use Rattle.eps_check.specs.Spans.{HaveOverlap}

-- p is the pair of i and j, or comes before it
abbrev pub NotLater : Pair → ℕ → ℕ → Type 0
NotLater p i j = (p.first < i) ⊎ ((p.first ≡ i) × (p.second ≤ j))

-- the best pair so far is not later than that of i and j
abbrev pub Covers : Option Pair → ℕ → ℕ → Type 0
Covers None i j = ⊥
Covers (Some p) i j = NotLater p i j

-- the pair is a faulty one
pub record IsFaulty (items : List Item) (p : Pair) : Type 0 where
  pub order : p.first < p.second
  pub within : p.second < length items
  pub faulty : FaultyPair items p.first p.second

-- the best pair so far is a faulty one
abbrev pub IsReal : List Item → Option Pair → Type 0
IsReal items None = Unit {0}
IsReal items (Some p) = IsFaulty items p

-- i and j are these two
abbrev pub AreThese : ℕ → ℕ → ℕ → ℕ → Type 0
AreThese a b i j = ((i ≡ a) × (j ≡ b)) ⊎ ((i ≡ b) × (j ≡ a))

-- the best pair after that of a and b
pub record IsBetter (items : List Item) (a b : ℕ) (old new : Option Pair) : Type 0 where
  pub real : IsReal items old → IsReal items new
  pub keeps : (i j : ℕ) → Covers old i j → Covers new i j
  pub own : (i j : ℕ) → i < j → AreThese a b i j → FaultyPair items i j → Covers new i j

-- the best pair after the span s at p was compared with those between p and q
pub record IsBetterBeside (items : List Item) (spans : List Span) (p q : ℕ) (old new : Option Pair) : Type 0 where
  pub real : IsReal items old → IsReal items new
  pub keeps : (i j : ℕ) → Covers old i j → Covers new i j
  pub own : (r : ℕ) (s t : Span) → p < r → r < q → slice_get spans p ≡ Some s → slice_get spans r ≡ Some t → t.low ≤ s.high →
      (i j : ℕ) → i < j → AreThese s.item t.item i j → FaultyPair items i j → Covers new i j

-- the best pair after the first k spans were compared with those behind them
pub record IsSearched (items : List Item) (spans : List Span) (k : ℕ) (best : Option Pair) : Type 0 where
  pub real : IsReal items best
  pub own : (p r : ℕ) (s t : Span) → p < k → p < r → slice_get spans p ≡ Some s → slice_get spans r ≡ Some t → t.low ≤ s.high →
      (i j : ℕ) → i < j → AreThese s.item t.item i j → FaultyPair items i j → Covers best i j

-- the spans stand by their low ends
pub record AreSorted (spans : List Span) : Type 0 where
  pub order : (i j : ℕ) (s t : Span) → i < j → slice_get spans i ≡ Some s → slice_get spans j ≡ Some t → s.low ≤ t.low

-- the best pair of all whose spans overlap
pub record IsBest (items : List Item) (spans : List Span) (best : Option Pair) : Type 0 where
  pub real : IsReal items best
  pub covers : (i j : ℕ) → i < j → HaveOverlap spans i j → FaultyPair items i j → Covers best i j
