-- How a map is kept: tables by number, and what the loops over them hold.
--   ring cw k d            k ends from d on, each the entry of the one before it
--   tables ..              the tables of a map, in one record
--   rotation_of t          the graph that the tables stand for
--   IsTableOf n f table    the table has f at the numbers below n
--   IsMap t                the tables belong together
--   AreLinksSplit ..       one end has given its place to a new one
--   no_first               what a table of first ends has for a vertex with no edge
--   put_entry l a          the table with a new end behind a
--   bumped_at l v          the table with one more at v
--   AreLinksRemoved ..     the ends of an edge have left, and the last edge has its number
--   first_left ..          what becomes of a first end then
--   lowered_at l v         the table with one less at v
use Rattle.std.specs.Prelude.{ℕ, zero, suc, ◌≡◌, ◌≢◌, ◌⊎◌, ◌+◌, ◌-◌, ◌*◌, ◌^◌, ◌<◌, ◌==◌, ◌||◌, Bool, true, cond, nat_lt, List, [], ◌∷◌, ◌++◌, map, length, slice_index, slice_index_or, slice_set}
use Rattle.std.specs.List.{range_with_len}
use Rattle.st_ids.specs.Ends.{edge_of}
use Rattle.st_ids.specs.Graph.{tail_of, head_of}
use Rattle.st_map.specs.Counting.{count_below}
use Rattle.st_map.specs.Embedded.{Embedded, IsRotation, next}
use Rattle.st_map.specs.Orders.{end_at}
use Rattle.st_map.specs.Remove.{exchanged}

-- k ends from d on, each the table's entry of the one before it
abbrev pub ring : List ℕ → ℕ → ℕ → List ℕ
ring cw zero d = []
ring cw (suc k) d = d ∷ ring cw k (slice_index cw d)

-- The tables of a map: tail and head of each edge, first end and degree of each vertex, clockwise and counter-clockwise
-- next of each end.
pub record Tables : Type 0 where
  pub vertices : ℕ
  pub ends : List (ℕ × ℕ)
  pub first : List ℕ
  pub degree : List ℕ
  pub cw : List ℕ
  pub ccw : List ℕ

abbrev pub tables : ℕ → List (ℕ × ℕ) → List ℕ → List ℕ → List ℕ → List ℕ → Tables
tables n ends first degree cw ccw = record { vertices = n; ends = ends; first = first; degree = degree; cw = cw; ccw = ccw }

-- the list of v
abbrev pub ring_at : List ℕ → List ℕ → List ℕ → ℕ → List ℕ
ring_at first degree cw v = ring cw (slice_index degree v) (slice_index first v)

-- the graph that the tables stand for
abbrev pub rotation_of : Tables → Embedded
rotation_of t = record { vertices = t.vertices; ends = t.ends; orders = map (ring_at t.first t.degree t.cw) (range_with_len 0 t.vertices) }

-- the table has f at the numbers below n
pub record IsTableOf (n : ℕ) (f : ℕ → ℕ) (table : List ℕ) : Type 0 where
  pub size : length table ≡ n
  pub each : (d : ℕ) → d < n → slice_index table d ≡ f d

-- the table leads back from the entries of another
pub record IsBack (cw ccw : List ℕ) : Type 0 where
  pub size : length ccw ≡ length cw
  pub each : (d : ℕ) → d < length cw → slice_index ccw (slice_index cw d) ≡ d

-- what a table of first ends has for a vertex with no edge
abbrev pub no_first : ℕ
no_first = 4294967295

-- What the tables of a map are.
pub record IsMap (t : Tables) : Type 0 where
  pub vertices_few : t.vertices < 2 ^ 30
  pub edges_few : length t.ends < 2 ^ 30
  pub rotation : IsRotation (rotation_of t)
  pub firsts : length t.first ≡ t.vertices
  pub degrees : length t.degree ≡ t.vertices
  pub clockwise : IsTableOf (2 * length t.ends) (next (rotation_of t)) t.cw
  pub counter : IsBack t.cw t.ccw
  pub no_loop : (e : ℕ) → e < length t.ends → tail_of t.ends e ≢ head_of t.ends e
  pub empty : (v : ℕ) → v < t.vertices → slice_index t.degree v ≡ 0 → slice_index t.first v ≡ no_first

-- whether edge e has an end at v
abbrev pub is_at : List (ℕ × ℕ) → ℕ → ℕ → Bool
is_at ends v e = (tail_of ends e == v) || (head_of ends e == v)

-- whether edge e leads from v, and to v
abbrev pub leaves : List (ℕ × ℕ) → ℕ → ℕ → Bool
leaves ends v e = tail_of ends e == v

abbrev pub enters : List (ℕ × ℕ) → ℕ → ℕ → Bool
enters ends v e = head_of ends e == v

-- the degrees that the first k edges make
pub record AreDegrees (n : ℕ) (ends : List (ℕ × ℕ)) (k : ℕ) (degree : List ℕ) : Type 0 where
  pub size : length degree ≡ n
  pub each : (v : ℕ) → v < n → slice_index degree v ≡ count_below k (leaves ends v) + count_below k (enters ends v)

-- all entries are edges
abbrev pub AreEdges : List (ℕ × ℕ) → List ℕ → Type 0
AreEdges ends es = (k : ℕ) → k < length es → slice_index es k < length ends

-- the list has the edges at v, each once, and no other: by places
pub record IsLawful (ends : List (ℕ × ℕ)) (v : ℕ) (es : List ℕ) : Type 0 where
  pub only : (k : ℕ) → k < length es → is_at ends v (slice_index es k) ≡ true
  pub all : (e : ℕ) → e < length ends → is_at ends v e ≡ true → (k : ℕ) × (k < length es) × (slice_index es k ≡ e)
  pub once : (i k : ℕ) → i < k → k < length es → slice_index es i ≢ slice_index es k

-- what holds of the list's first k, with the marks of the edges that were seen
pub record IsLawfulUpTo (ends : List (ℕ × ℕ)) (v : ℕ) (es : List ℕ) (old seen : List ℕ) (k : ℕ) : Type 0 where
  pub size : length seen ≡ length ends
  pub only : (j : ℕ) → j < k → is_at ends v (slice_index es j) ≡ true
  pub once : (i j : ℕ) → i < j → j < k → slice_index es i ≢ slice_index es j
  pub marked : (j : ℕ) → j < k → slice_index seen (slice_index es j) ≡ v
  pub marks : (e : ℕ) → e < length ends → ((slice_index seen e ≡ v) × (j : ℕ) × (j < k) × (slice_index es j ≡ e)) ⊎ (slice_index seen e ≡ slice_index old e)

-- the place after k in a cyclic list
abbrev pub place_after : ℕ → ℕ → ℕ
place_after len k = cond (nat_lt (k + 1) len) (k + 1) 0

-- the ends at the vertices below v have their next
pub record AreListsLinked (ends : List (ℕ × ℕ)) (orders : List (List ℕ)) (v : ℕ) (cw : List ℕ) : Type 0 where
  pub size : length cw ≡ 2 * length ends
  pub done : (u k : ℕ) → u < v → k < length (slice_index_or orders u []) → slice_index cw (end_at ends u (slice_index (slice_index_or orders u []) k))
      ≡ end_at ends u (slice_index (slice_index_or orders u []) (place_after (length (slice_index_or orders u [])) k))

-- the first end of each list, and no end for a list that is empty
pub record AreFirsts (n : ℕ) (ends : List (ℕ × ℕ)) (orders : List (List ℕ)) (first : List ℕ) : Type 0 where
  pub size : length first ≡ n
  pub each : (v : ℕ) → v < n → 0 < length (slice_index_or orders v []) → slice_index first v ≡ end_at ends v (slice_index (slice_index_or orders v []) 0)
  pub none : (v : ℕ) → v < n → length (slice_index_or orders v []) ≡ 0 → slice_index first v ≡ no_first

-- the number of an end, where the given one gets the number `place`
abbrev pub renumbered : ℕ → ℕ → ℕ → ℕ
renumbered end place d = cond (d == end) place d

-- The links afterwards: there are two more ends. The second has the place of the given end, and the first leads to it and
-- is led to by it.
pub record AreLinksSplit (old : List ℕ) (end : ℕ) (new : List ℕ) : Type 0 where
  pub size : length new ≡ suc (suc (length old))
  pub kept : (d : ℕ) → d < length old → d ≢ end → slice_index new d ≡ renumbered end (suc (length old)) (slice_index old d)
  pub split : slice_index new end ≡ length old
  pub out : slice_index new (length old) ≡ end
  pub place : slice_index new (suc (length old)) ≡ renumbered end (suc (length old)) (slice_index old end)

-- the table of next ends with one more entry: the entry a leads to it, and it to what a led to
abbrev pub put_entry : List ℕ → ℕ → List ℕ
put_entry l a = slice_set l a (length l) ++ slice_index l a ∷ []

-- the table with one more at v
abbrev pub bumped_at : List ℕ → ℕ → List ℕ
bumped_at l v = slice_set l v (slice_index l v + 1)

-- the entry behind d that is no end of edge e
abbrev pub passed_in : List ℕ → ℕ → ℕ → ℕ
passed_in l e d = cond (edge_of (slice_index l d) == e) (slice_index l (slice_index l d)) (slice_index l d)

-- The links afterwards, where m edges are left: each other end leads to the first end behind it that is none of e's, and
-- the ends of the last edge have the numbers of e's.
pub record AreLinksRemoved (old : List ℕ) (m e : ℕ) (new : List ℕ) : Type 0 where
  pub size_old : length old ≡ suc (suc (2 * m))
  pub size : length new ≡ 2 * m
  pub each : (d : ℕ) → d < 2 * m → exchanged m e (slice_index new d) ≡ passed_in old e (exchanged m e d)

-- what becomes of a first end: where it is e's, the next is first, if there is another
abbrev pub first_left : List ℕ → ℕ → ℕ → ℕ → ℕ
first_left cw m e d = cond (edge_of d == e) (cond (slice_index cw d == d) no_first (exchanged m e (slice_index cw d))) (exchanged m e d)

-- the table with one less at v
abbrev pub lowered_at : List ℕ → ℕ → List ℕ
lowered_at l v = slice_set l v (slice_index l v - 1)
