-- Spans of the two items of a faulty pair overlap.
use Rattle.std.proofs.Common.{◌≡◌, ℕ, ◌+◌, ◌*◌, ◌≤◌, ℤ, nat_abs, false, Option, None, MatchOption, List, length, slice_get, Some, Contains, All, inl, inr, ap, sym, subst, refl, arith, mul-le-mul_left}
use Rattle.std.proofs.lemmas.List.Sorted.{Contains-permutation}
use Rattle.std.proofs.lemmas.Option.{get_or_from_slice_get, slice_get_within}
use Rattle.std.specs.List.Sorted.{IsNonDecreasingBy, IsPermutation}
use Rattle.st_shape.specs.declared.point.Point.{Point}
use Rattle.st_shape.specs.declared.point.Segment.{Segment}
use Rattle.st_shape.specs.declared.item.Item.{Item}
use Rattle.st_shape.specs.declared.item.Item.TheVariants.{Dot, Bar, Line, Rect, Face, Label}
use Rattle.st_shape.specs.Clean.{FaultyAlone, FaultyPair, FaultyShapes, FaultyVertexAndLine, Shape, vertex, line, other, shape_of}
use Rattle.st_shape.specs.declared.picture.Form.{Form}
use Rattle.st_shape.specs.Least.{IsLeastPair, NoPair}
use Rattle.st_shape.specs.Meeting.{IsOnGrid, LiesOn, Ratio}
use Rattle.st_shape.specs.Steps.{IsItemOnGrid}
use Rattle.st_shape.proofs.Public.{on_grid_at}
use Rattle.eps_check.specs.declared.spans.Span.{Span}
use Rattle.eps_check.specs.declared.pairs.Pair.{Pair}
use Rattle.eps_check.specs.Names.{IsSoundLine}
use Rattle.eps_check.specs.Pairs.{AreSorted, IsBest}
use Rattle.eps_check.specs.Spans.{AreSpanned, end_span, HaveOverlap, IsSpanned, IsInSpan, name_key, low_of, vertex_span}
use Rattle.eps_check.proofs.PairLemmas.{ShapePoint}
use Rattle.eps_check.proofs.PointLemmas.{le_of, weighted}
use Rattle.eps_check.proofs.SpanLemmas.{spanned_kept}

-- ---- points of an item lie in its range of heights

above : (lo a b m i q y : ℕ) → m + i ≡ q → y ≡ m * a + i * b → lo ≤ a → lo ≤ b → q * lo ≤ y
above lo a b m i q y same e h k = omega (arith, e, ap (λ t. t * lo) same, mul-le-mul_left m h, mul-le-mul_left i k)

below : (hi a b m i q y : ℕ) → m + i ≡ q → y ≡ m * a + i * b → a ≤ hi → b ≤ hi → y ≤ q * hi
below hi a b m i q y same e h k = omega (arith, e, ap (λ t. t * hi) same, mul-le-mul_left m h, mul-le-mul_left i k)

-- a span of the item at k has the height of the point
record Holds (spans : List Span) (k : ℕ) (p : Ratio) : Type 0 where
  span : Span
  there : Contains spans span
  of : span.item ≡ k
  low : p.q * span.low ≤ nat_abs p.y
  high : nat_abs p.y ≤ p.q * span.high

holds_on : (spans : List Span) (k : ℕ) (span : Span) → Contains spans span → span.item ≡ k → (s : Segment) → IsOnGrid s.a → IsOnGrid s.b →
    IsInSpan span s.a → IsInSpan span s.b → (p : Ratio) → LiesOn s p → Holds spans k p
holds_on spans k span there of s ga gb a b p on =
    let w = weighted false s ga gb p on in
    record {
      span = span;
      there = there;
      of = of;
      low = above span.low (nat_abs s.a.y) (nat_abs s.b.y) w.m w.i p.q (nat_abs p.y) w.same w.h a.low b.low;
      high = below span.high (nat_abs s.a.y) (nat_abs s.b.y) w.m w.i p.q (nat_abs p.y) w.same w.h a.high b.high;
    }

-- what the rules see of an item lies on the grid
abbrev pub IsShapeOnGrid : Shape → Type 0
IsShapeOnGrid (vertex n s) = IsOnGrid s.a × IsOnGrid s.b
IsShapeOnGrid (line tail head points) = All (λ p. IsOnGrid p) points
IsShapeOnGrid other = Unit {0}

holds : (spans : List Span) (k : ℕ) (a : Shape) → IsShapeOnGrid a → IsSpanned spans k a → (p : Ratio) → ShapePoint a p → Holds spans k p
holds spans k (vertex n s) g h p on = holds_on spans k h.0.span h.0.there h.0.of s g.0 g.1 (h.0.covers s.a (inl refl)) (h.0.covers s.b (inr refl)) p on
holds spans k (line tail head points) g h p w =
    let s = w.0 in
    let on = w.1 in
    holds_on spans k h.0.span h.0.there h.0.of s (on_grid_at points g on.k s.a on.a_is) (on_grid_at points g (on.k + 1) s.b on.b_is)
    (h.0.covers s.a (on.k, on.a_is)) (h.0.covers s.b (on.k + 1, on.b_is)) p w.2
holds spans k other g h p on = absurd on

-- ---- overlaps

low_high : (q a b y : ℕ) → 1 ≤ q → q * a ≤ y → y ≤ q * b → a ≤ b
low_high q a b y some h k = le_of q a b some (omega (arith, h, k))

module _ (spans : List Span) (i j : ℕ) where
  of_point : (p : Ratio) → 1 ≤ p.q → Holds spans i p → Holds spans j p → HaveOverlap spans i j
  of_point p some h g =
      record {
        s = h.span;
        t = g.span;
        s_there = h.there;
        t_there = g.there;
        s_of = h.of;
        t_of = g.of;
        s_low = low_high p.q h.span.low g.span.high (nat_abs p.y) some h.low g.high;
        t_low = low_high p.q g.span.low h.span.high (nat_abs p.y) some g.low h.high;
      }

  of_names : (m n : ℤ) → m ≡ n → Contains spans (vertex_span i m) → Contains spans (vertex_span j n) → HaveOverlap spans i j
  of_names m n e h g =
      let z = ap name_key e in
      record {
        s = vertex_span i m;
        t = vertex_span j n;
        s_there = h;
        t_there = g;
        s_of = refl;
        t_of = refl;
        s_low = same_or_less (name_key m) (name_key n) z;
        t_low = same_or_less (name_key n) (name_key m) (sym z);
      }
    where
      same_or_less : (a b : ℕ) → a ≡ b → a ≤ b + 1
      same_or_less a b e = omega arith

  of_end : (m n : ℤ) → n ≡ m → Contains spans (vertex_span i m) → Contains spans (end_span j n) → HaveOverlap spans i j
  of_end m n e h g =
      let z = ap name_key e in
      record {
        s = vertex_span i m;
        t = end_span j n;
        s_there = h;
        t_there = g;
        s_of = refl;
        t_of = refl;
        s_low = no_more (name_key m) (name_key n) z;
        t_low = one_more (name_key n) (name_key m) z;
      }
    where
      no_more : (a b : ℕ) → b ≡ a → a ≤ b
      no_more a b e = omega arith

      one_more : (a b : ℕ) → a ≡ b → a + 1 ≤ b + 1
      one_more a b e = omega arith

overlap_turned : (spans : List Span) (i j : ℕ) → HaveOverlap spans i j → HaveOverlap spans j i
overlap_turned spans i j o = record { s = o.t; t = o.s; s_there = o.t_there; t_there = o.s_there; s_of = o.t_of; t_of = o.s_of; s_low = o.t_low; t_low = o.s_low }

vertex_and_line : (spans : List Span) (i j : ℕ) (m : ℤ) (s : Segment) (tail head : ℤ) (points : List Point) → IsShapeOnGrid (vertex m s) → IsShapeOnGrid (line tail head points) →
    IsSpanned spans i (vertex m s) → IsSpanned spans j (line tail head points) → FaultyVertexAndLine m s tail head points → HaveOverlap spans i j
vertex_and_line spans i j m s tail head points ga gb a b (inl f) =
    of_point spans i j f.p f.shared.divides (holds spans i (vertex m s) ga a f.p f.shared.second)
    (holds spans j (line tail head points) gb b f.p (f.s, f.segment, f.shared.first))
vertex_and_line spans i j m s tail head points ga gb a b (inr x) =
    elim x.end [ inl u ↦ of_end spans i j m tail u.1 a.1 b.1 | inr u ↦ of_end spans i j m head u.1 a.1 b.2 ]

pub shapes_overlap : (spans : List Span) (i j : ℕ) (a b : Shape) → IsShapeOnGrid a → IsShapeOnGrid b → IsSpanned spans i a → IsSpanned spans j b →
    FaultyShapes a b → HaveOverlap spans i j
shapes_overlap spans i j (vertex m s) (vertex n t) ga gb a b (inl e) = of_names spans i j m n e a.1 b.1
shapes_overlap spans i j (vertex m s) (vertex n t) ga gb a b (inr h) =
    of_point spans i j h.0 h.1.divides (holds spans i (vertex m s) ga a h.0 h.1.first) (holds spans j (vertex n t) gb b h.0 h.1.second)
shapes_overlap spans i j (vertex m s) (line tail head points) ga gb a b h = vertex_and_line spans i j m s tail head points ga gb a b h
shapes_overlap spans i j (line tail head points) (vertex m s) ga gb a b h = overlap_turned spans j i (vertex_and_line spans j i m s tail head points gb ga b a h)
shapes_overlap spans i j (line tail head points) (line tail' head' points') ga gb a b h =
    of_point spans i j h.p h.shared.divides (holds spans i (line tail head points) ga a h.p (h.s, h.first, h.shared.first))
    (holds spans j (line tail' head' points') gb b h.p (h.t, h.second, h.shared.second))
shapes_overlap spans i j (vertex m s) other ga gb a b h = absurd h
shapes_overlap spans i j (line tail head points) other ga gb a b h = absurd h
shapes_overlap spans i j other (vertex m s) ga gb a b h = absurd h
shapes_overlap spans i j other (line tail head points) ga gb a b h = absurd h
shapes_overlap spans i j other other ga gb a b h = absurd h

-- ---- items

shape_on_grid : (e : Item) → IsItemOnGrid e → IsShapeOnGrid (shape_of e)
shape_on_grid (Dot name p) g = (g, g)
shape_on_grid (Bar name y from to) g = g
shape_on_grid (Line name tail head points) g = g.1
shape_on_grid (Rect name tail head low high) g = tt
shape_on_grid (Face number x from to) g = tt
shape_on_grid (Label name p text) g = tt

item_on_grid_at : (items : List Item) → All (λ e. IsItemOnGrid e) items → (k : ℕ) (e : Item) → slice_get items k ≡ Some e → IsItemOnGrid e
item_on_grid_at items all k e f = subst (λ (x : Item). IsItemOnGrid x) (get_or_from_slice_get items k e e f) (all k e (slice_get_within items k e f))

pub pair_overlaps : (items : List Item) (spans : List Span) → All (λ e. IsItemOnGrid e) items → AreSpanned items (length items) spans →
    (i j : ℕ) → FaultyPair items i j → HaveOverlap spans i j
pair_overlaps items spans grid all i j h =
    shapes_overlap spans i j (shape_of h.e) (shape_of h.f) (shape_on_grid h.e (item_on_grid_at items grid i h.e h.e_is))
    (shape_on_grid h.f (item_on_grid_at items grid j h.f h.f_is)) (all.has i h.e (slice_get_within items i h.e h.e_is) h.e_is)
    (all.has j h.f (slice_get_within items j h.f h.f_is) h.f_is) h.faulty

-- ---- the order of spans is free

pub spanned_sorted : (items : List Item) (n : ℕ) (spans sorted : List Span) → IsPermutation spans sorted → AreSpanned items n spans → AreSpanned items n sorted
spanned_sorted items n spans sorted perm all =
    record { has = λ k e less f. spanned_kept spans sorted k (shape_of e) (record { each = λ s h. Contains-permutation spans sorted s perm h }) (all.has k e less f) }

pub sorted_from : (spans : List Span) → IsNonDecreasingBy low_of spans → AreSorted spans
sorted_from spans up =
    record {
      order = λ i j s t less e f.
          let h = up i j s (omega (arith, less)) (slice_get_within spans j t f) in
          let a = ap low_of (get_or_from_slice_get spans i s s e) in
          let b = ap low_of (get_or_from_slice_get spans j t s f) in
          omega (arith, h, a, b);
    }

-- ---- the first fault

-- the best pair of all that overlap is the least of all
pub least_from : (items : List Item) (spans : List Span) → All (λ e. IsItemOnGrid e) items → AreSpanned items (length items) spans → (best : Option Pair) →
    IsBest items spans best → MatchOption best (NoPair (length items) (FaultyPair items)) (λ pair. IsLeastPair (length items) (FaultyPair items) pair.first pair.second)
least_from items spans grid all None best = λ i j less within h. best.covers i j less (pair_overlaps items spans grid all i j h) h
least_from items spans grid all (Some p) best =
    record {
      order = best.real.order;
      within = best.real.within;
      faulty = best.real.faulty;
      least_first = λ k l less m within h. elim (best.covers k l m (pair_overlaps items spans grid all k l h) h) [
        | inl before ↦ omega (arith, less, before)
        | inr same ↦ let e = same.0 in omega (arith, less, e)
      ];
      least_second = λ l m less h. elim (best.covers p.first l m (pair_overlaps items spans grid all p.first l h) h) [
        | inl before ↦ omega (arith, before)
        | inr same ↦ let e = same.1 in omega (arith, less, e)
      ];
    }

pub least_of : (items : List Item) (found : Option Pair) (pair : Pair) → found ≡ Some pair →
    MatchOption found (NoPair (length items) (FaultyPair items)) (λ p. IsLeastPair (length items) (FaultyPair items) p.first p.second) →
    IsLeastPair (length items) (FaultyPair items) pair.first pair.second
least_of items found pair e h =
    subst (λ r. MatchOption r (NoPair (length items) (FaultyPair items)) (λ p. IsLeastPair (length items) (FaultyPair items) p.first p.second)) e h

pub none_of : (items : List Item) (found : Option Pair) → found ≡ None →
    MatchOption found (NoPair (length items) (FaultyPair items)) (λ p. IsLeastPair (length items) (FaultyPair items) p.first p.second) →
    NoPair (length items) (FaultyPair items)
none_of items found e h =
    subst (λ r. MatchOption r (NoPair (length items) (FaultyPair items)) (λ p. IsLeastPair (length items) (FaultyPair items) p.first p.second)) e h

pub sound_line : (form : Form) (items : List Item) (name tail head : ℤ) (points : List Point) → IsSoundLine form items tail head points →
    FaultyAlone form items (Line name tail head points) → ⊥
sound_line form items name tail head points s h =
    elim h [ inl falls ↦ falls s.rises | inr u ↦ elim u [ inl missing ↦ missing s.tail_there | inr missing ↦ missing s.head_there ] ]
