-- Spans: what two items of a faulty pair have in common, as ranges of numbers that overlap.
--   name_key n              the number of a name, above all heights
--   vertex_span, end_span   the spans of a vertex by its name, and of a line by the name of an end
--   IsInSpan s v            the height of the point is in the span
--   IsSpanned spans k a     the spans of the item at k are there, where a is what the rules see of it
--   HaveOverlap spans i j   spans of the items at i and j overlap
use Rattle.std.specs.Prelude.{◌≡◌, ℕ, ◌+◌, ◌*◌, ◌%◌, ◌<◌, ◌≤◌, ◌⊎◌, ℤ, nat_abs, List, slice_get, Some, Contains}
use Rattle.st_shape.specs.declared.point.Point.{Point}
use Rattle.st_shape.specs.declared.item.Item.{Item}
use Rattle.st_shape.specs.Clean.{Shape, vertex, line, other, shape_of}
use Rattle.eps_check.specs.declared.spans.Span.{Span}

-- the number of a name
abbrev pub name_key : ℤ → ℕ
name_key n = 4611686018427387904 + 2 * (nat_abs n % 2305843009213693952)

abbrev pub vertex_span : ℕ → ℤ → Span
vertex_span k n = record { low = name_key n; high = name_key n + 1; item = k }

abbrev pub end_span : ℕ → ℤ → Span
end_span k n = record { low = name_key n + 1; high = name_key n; item = k }

abbrev pub low_of : Span → ℕ
low_of s = s.low

-- the height of the point is in the span
pub record IsInSpan (s : Span) (v : Point) : Type 0 where
  pub low : s.low ≤ nat_abs v.y
  pub high : nat_abs v.y ≤ s.high

-- no span is lost
pub record KeepsSpans (old new : List Span) : Type 0 where
  pub each : (s : Span) → Contains old s → Contains new s

-- a span of the item has the height of each such point
pub record HasRange (spans : List Span) (k : ℕ) (IsPoint : Point → Type 0) : Type 0 where
  pub span : Span
  pub there : Contains spans span
  pub of : span.item ≡ k
  pub covers : (v : Point) → IsPoint v → IsInSpan span v

-- the point is one of the line
abbrev pub IsPointIn : List Point → Point → Type 0
IsPointIn points v = (j : ℕ) × (slice_get points j ≡ Some v)

-- the spans of the item are there
abbrev pub IsSpanned : List Span → ℕ → Shape → Type 0
IsSpanned spans k (vertex n s) = HasRange spans k (λ v. (v ≡ s.a) ⊎ (v ≡ s.b)) × Contains spans (vertex_span k n)
IsSpanned spans k (line tail head points) = HasRange spans k (IsPointIn points) × Contains spans (end_span k tail) × Contains spans (end_span k head)
IsSpanned spans k other = Unit {0}

-- the spans of the first n items are there
pub record AreSpanned (items : List Item) (n : ℕ) (spans : List Span) : Type 0 where
  pub has : (k : ℕ) (e : Item) → k < n → slice_get items k ≡ Some e → IsSpanned spans k (shape_of e)

-- a span of the item at i and one of the item at j overlap
pub record HaveOverlap (spans : List Span) (i j : ℕ) : Type 0 where
  pub s : Span
  pub t : Span
  pub s_there : Contains spans s
  pub t_there : Contains spans t
  pub s_of : s.item ≡ i
  pub t_of : t.item ≡ j
  pub s_low : s.low ≤ t.high
  pub t_low : t.low ≤ s.high
