-- Links made from the lists of edges at the vertices, list by list.
--   listed_end ends v es k   the end at v of the list's entry k
--   place_before len k       the place before k in a cyclic list
--   linked_to ..             the record of an end with these neighbours
--   chained_end ..           the record of the list's entry k
--   first_key ..             the key of the first entry
--   IsListChained ..         the list's first k ends have their links, and all other records are as before
--   AreListsChained ..       the ends at the vertices below v have their links
--   AreFirstKeysOf ..        the first keys of the vertices below v
use Rattle.std.specs.Prelude.{ℕ, zero, suc, ◌≡◌, ◌≢◌, ◌-◌, ◌*◌, ◌<◌, List, [], ◌∷◌, length, slice_index, slice_index_or, Option, Some, None}
use Rattle.slab.specs.Slab.{Slab, get, slab_len}
use Rattle.st_ids.specs.Ends.{twin}
use Rattle.st_map.specs.Orders.{end_at, order_at}
use Rattle.st_map.specs.Links.{AreNamed, key_of}
use Rattle.st_map.specs.Tables.{place_after}
use Rattle.st_map.specs.declared.links.End.{End}

-- the end at v of the list's entry k
abbrev pub listed_end : List (ℕ × ℕ) → ℕ → List ℕ → ℕ → ℕ
listed_end ends v es k = end_at ends v (slice_index es k)

-- the place before k in a cyclic list
abbrev pub place_before : ℕ → ℕ → ℕ
place_before len zero = len - 1
place_before len (suc k) = k

-- the record of an end whose neighbours have these keys
abbrev pub linked_to : List (ℕ × ℕ) → ℕ → ℕ → ℕ → End
linked_to keys d cw ccw = record { dart = d; twin = key_of keys (twin d); cw = cw; ccw = ccw }

-- the record of the list's entry k
abbrev pub chained_end : List (ℕ × ℕ) → List (ℕ × ℕ) → ℕ → List ℕ → ℕ → End
chained_end keys ends v es k = linked_to keys (listed_end ends v es k) (key_of keys (listed_end ends v es (place_after (length es) k)))
    (key_of keys (listed_end ends v es (place_before (length es) k)))

-- the key of the first entry
abbrev pub first_key : List (ℕ × ℕ) → List (ℕ × ℕ) → ℕ → List ℕ → Option ℕ
first_key keys ends v [] = None
first_key keys ends v (e ∷ es) = Some (key_of keys (end_at ends v e))

-- the first k ends of the list have their links, and all other records are as before
pub record IsListChained (s s' : Slab End) (keys ends : List (ℕ × ℕ)) (v : ℕ) (es : List ℕ) (k : ℕ) : Type 0 where
  pub named : AreNamed s' (length keys) keys
  pub count : slab_len s' ≡ slab_len s
  pub done : (j : ℕ) → j < k → get s' (key_of keys (listed_end ends v es j)) ≡ Some (chained_end keys ends v es j)
  pub others : (d : ℕ) → d < 2 * length keys → ((j : ℕ) → j < k → d ≢ listed_end ends v es j) → get s' (key_of keys d) ≡ get s (key_of keys d)

-- the ends at the vertices below v have their links
pub record AreListsChained (s : Slab End) (keys ends : List (ℕ × ℕ)) (orders : List (List ℕ)) (v : ℕ) : Type 0 where
  pub named : AreNamed s (length keys) keys
  pub done : (u k : ℕ) → u < v → k < length (order_at orders u)
      → get s (key_of keys (listed_end ends u (order_at orders u) k)) ≡ Some (chained_end keys ends u (order_at orders u) k)

-- the keys of the first ends at the vertices below v
pub record AreFirstKeysOf (keys ends : List (ℕ × ℕ)) (orders : List (List ℕ)) (v : ℕ) (found : List (Option ℕ)) : Type 0 where
  pub size : length found ≡ v
  pub each : (u : ℕ) → u < v → slice_index_or found u None ≡ first_key keys ends u (order_at orders u)
