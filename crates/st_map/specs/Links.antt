-- The map as links: a record for each end, under a key that the slab picks.
--   key_of keys d      the key of an end, from the keys of the two ends of each edge
--   end_in s k         the record under a key
--   IsLinked ..        each end's record is found by its key, and has the keys of its twin and of both its neighbours
--   AreLinks ..        the records, the keys and the first keys belong together, and no other record lives
--   links_of ..        the tables by number of an end that the links stand for
--   AreNamed ..        each end has a record, which tells its number
--   HasRoom ..         a map has room for so many more vertices and edges
--   SameLinks, RoomGrows, SameRooms, HasRoomForMore    tables and room before and after
--   SplitsEnds ..      what a split does to the records
--   PutsEnd, NamesEnds ..   what an insertion does to them
--   RenumbersEnd, TakesEnd, next_first    what a removal does to them and to a first key
use Rattle.std.specs.Prelude.{ℕ, ◌≡◌, ◌≢◌, ◌+◌, ◌*◌, ◌^◌, ◌<◌, ◌≤◌, ◌==◌, suc, cond, List, map, length, slice_index_or, Option, Some, None, unwrap_or}
use Rattle.std.specs.List.{range_with_len}
use Rattle.slab.specs.Slab.{Slab, get, slab_len}
use Rattle.st_ids.specs.Ends.{twin, edge_of, is_out}
use Rattle.st_map.specs.Tables.{no_first}
use Rattle.st_map.specs.declared.links.End.{End}

-- What links are seen as: tables by number of an end and by number of a vertex, and how many ends, edges and vertices fit.
pub record LinkTables : Type 0 where
  pub cw : List ℕ
  pub ccw : List ℕ
  pub first : List ℕ
  pub room_ends : ℕ
  pub room_edges : ℕ
  pub room_vertices : ℕ

-- the key of an end
abbrev pub key_of : List (ℕ × ℕ) → ℕ → ℕ
key_of keys d = cond (is_out d) (slice_index_or keys (edge_of d) (0, 0)).0 (slice_index_or keys (edge_of d) (0, 0)).1

abbrev pub no_end : End
no_end = record { dart = 0; twin = 0; cw = 0; ccw = 0 }

-- the record under a key
abbrev pub end_in : Slab End → ℕ → End
end_in s k = unwrap_or (get s k) no_end

-- the clockwise and the counter-clockwise next of an end
abbrev pub cw_at : Slab End → List (ℕ × ℕ) → ℕ → ℕ
cw_at s keys d = (end_in s (end_in s (key_of keys d)).cw).dart

abbrev pub ccw_at : Slab End → List (ℕ × ℕ) → ℕ → ℕ
ccw_at s keys d = (end_in s (end_in s (key_of keys d)).ccw).dart

-- the end under a first key
abbrev pub first_at : Slab End → Option ℕ → ℕ
first_at s None = no_first
first_at s (Some k) = (end_in s k).dart

abbrev pub links_of : Slab End → List (ℕ × ℕ) → List (Option ℕ) → ℕ → ℕ → LinkTables
links_of s keys first room_edges room_vertices = record {
  cw = map (cw_at s keys) (range_with_len 0 (2 * length keys));
  ccw = map (ccw_at s keys) (range_with_len 0 (2 * length keys));
  first = map (first_at s) first;
  room_ends = s.capacity;
  room_edges = room_edges;
  room_vertices = room_vertices;
}

-- of the ends below n, with keys `key`, keys of twins `other`, and next ends f and g
pub record IsLinked (s : Slab End) (n : ℕ) (key other f g : ℕ → ℕ) : Type 0 where
  pub each : (d : ℕ) → d < n → get s (key d) ≡ Some (record { dart = d; twin = other d; cw = key (f d); ccw = key (g d) })
  pub cw_in : (d : ℕ) → d < n → f d < n
  pub ccw_in : (d : ℕ) → d < n → g d < n

-- the first keys are keys of ends below n
abbrev pub AreFirstKeys : ℕ → (ℕ → ℕ) → List (Option ℕ) → Type 0
AreFirstKeys n key first = (v k : ℕ) → slice_index_or first v None ≡ Some k → (d : ℕ) × (d < n) × (k ≡ key d)

pub record AreLinks (s : Slab End) (keys : List (ℕ × ℕ)) (first : List (Option ℕ)) : Type 0 where
  pub few : length keys < 2 ^ 30
  pub linked : IsLinked s (2 * length keys) (key_of keys) (λ d. key_of keys (twin d)) (cw_at s keys) (ccw_at s keys)
  pub firsts : AreFirstKeys (2 * length keys) (key_of keys) first
  pub count : slab_len s ≡ 2 * length keys

-- each of the first ends has a record, which tells its number
pub record AreNamed (s : Slab End) (edges : ℕ) (keys : List (ℕ × ℕ)) : Type 0 where
  pub size : length keys ≡ edges
  pub each : (d : ℕ) → d < 2 * edges → (r : End) × (get s (key_of keys d) ≡ Some r) × (r.dart ≡ d)

-- the tables are as before
pub record SameLinks (old new : LinkTables) : Type 0 where
  pub cw : new.cw ≡ old.cw
  pub ccw : new.ccw ≡ old.ccw
  pub first : new.first ≡ old.first

pub record RoomGrows (old new : LinkTables) : Type 0 where
  pub ends : old.room_ends ≤ new.room_ends
  pub edges : old.room_edges ≤ new.room_edges
  pub vertices : old.room_vertices ≤ new.room_vertices

pub record SameRooms (old new : LinkTables) : Type 0 where
  pub ends : new.room_ends ≡ old.room_ends
  pub edges : new.room_edges ≡ old.room_edges
  pub vertices : new.room_vertices ≡ old.room_vertices

-- so many more edges and vertices fit
pub record HasRoomForMore (t : LinkTables) (more : ℕ) : Type 0 where
  pub ends : length t.cw + 2 * more ≤ t.room_ends
  pub edges : length t.cw + 2 * more ≤ 2 * t.room_edges
  pub vertices : length t.first + more ≤ t.room_vertices

-- The numbers of n vertices and m edges and of `spare` more of each are small, and there is room for those, where there are
-- any: as many entries as are named last fit in the tables of edges and of degrees.
pub record HasRoom (n m spare ends degree : ℕ) (t : LinkTables) : Type 0 where
  pub vertices_few : n + spare < 2 ^ 30
  pub edges_few : m + spare < 2 ^ 30
  pub room_ends : 0 < spare → m + spare ≤ ends
  pub room_degree : 0 < spare → n + spare ≤ degree
  pub room_links : 0 < spare → HasRoomForMore t spare

-- The record at the old head has the number of the new edge's end there. There are two more records, which lead to each
-- other: e's end, and the new edge's other end.
pub record SplitsEnds (s s' : Slab End) (e m tail head own out : ℕ) : Type 0 where
  pub own_new : get s own ≡ None
  pub out_new : get s out ≡ None
  pub apart : own ≢ out
  pub at_tail : get s' tail ≡ Some (let r = end_in s tail in record { dart = r.dart; twin = own; cw = r.cw; ccw = r.ccw })
  pub at_head : get s' head ≡ Some (let r = end_in s head in record { dart = 2 * m + 1; twin = out; cw = r.cw; ccw = r.ccw })
  pub at_own : get s' own ≡ Some (record { dart = 2 * e + 1; twin = tail; cw = out; ccw = out })
  pub at_out : get s' out ≡ Some (record { dart = 2 * m; twin = head; cw = own; ccw = own })
  pub others : (k : ℕ) → k ≢ tail → k ≢ head → k ≢ own → k ≢ out → get s' k ≡ get s k
  pub count : slab_len s' ≡ slab_len s + 2

-- the record `new` stands after that of p and before that of x, and all else stays
pub record PutsEnd (s s' : Slab End) (p x new : ℕ) : Type 0 where
  pub at_new : get s' new ≡ Some (let r = end_in s new in record { dart = r.dart; twin = r.twin; cw = x; ccw = p })
  pub others : (k : ℕ) (r : End) → k ≢ new → get s k ≡ Some r → get s' k ≡ Some (record { dart = r.dart; twin = r.twin; cw = cond (k == p) new r.cw; ccw = cond (k == x) new r.ccw })
  pub count : slab_len s' ≡ slab_len s

-- two more records for the ends of edge m, which name each other, and no links yet
pub record NamesEnds (s s' : Slab End) (m tail head : ℕ) : Type 0 where
  pub tail_new : get s tail ≡ None
  pub head_new : get s head ≡ None
  pub apart : tail ≢ head
  pub at_tail : (r : End) × (get s' tail ≡ Some r) × (r.dart ≡ 2 * m) × (r.twin ≡ head)
  pub at_head : (r : End) × (get s' head ≡ Some r) × (r.dart ≡ 2 * m + 1) × (r.twin ≡ tail)
  pub others : (k : ℕ) → k ≢ tail → k ≢ head → get s' k ≡ get s k
  pub count : slab_len s' ≡ slab_len s + 2

-- the ends of a new edge m stand after the records a and b, whose clockwise next are a' and b'
pub record InsertsEnds (s s' : Slab End) (m a a' b b' tail head : ℕ) : Type 0 where
  pub named : Slab End
  pub names : NamesEnds s named m tail head
  pub between : Slab End
  pub puts_tail : PutsEnd named between a a' tail
  pub puts_head : PutsEnd between s' b b' head

-- the record under k has another number, and all else stays
pub record RenumbersEnd (s s' : Slab End) (k d : ℕ) : Type 0 where
  pub at : get s' k ≡ Some (record { dart = d; twin = (end_in s k).twin; cw = (end_in s k).cw; ccw = (end_in s k).ccw })
  pub others : (j : ℕ) → j ≢ k → get s' j ≡ get s j
  pub count : slab_len s' ≡ slab_len s

-- the record under p has left: those before and behind it have each other's keys, and all else stays
pub record TakesEnd (s s' : Slab End) (p : ℕ) : Type 0 where
  pub gone : get s' p ≡ None
  pub others : (k : ℕ) (r : End) → k ≢ p → get s k ≡ Some r → get s' k ≡ Some (record {
    dart = r.dart;
    twin = r.twin;
    cw = cond (k == (end_in s p).ccw) (end_in s p).cw r.cw;
    ccw = cond (k == (end_in s p).cw) (end_in s p).ccw r.ccw;
  })
  pub count : suc (slab_len s') ≡ slab_len s

-- the first key of a vertex, where the record under p leaves: that behind it, if there is another
abbrev pub next_first : Slab End → ℕ → Option ℕ → Option ℕ
next_first s p None = None
next_first s p (Some k) = cond (k == p) (cond ((end_in s p).cw == p) None (Some (end_in s p).cw)) (Some k)
