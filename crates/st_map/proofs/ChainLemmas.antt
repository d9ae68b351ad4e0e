-- Links made from the lists of edges.
use Rattle.std.proofs.Common.{◌≡◌, ℕ, zero, suc, ◌+◌, ◌-◌, ◌*◌, ◌^◌, ◌<◌, inl, inr, List, [], ◌∷◌, ◌++◌, map, length, get_or, Option, Some, None, unwrap_or, refl, sym, ap, ◌∙◌, subst, arith}
use Rattle.std.specs.List.{range_with_len}
use Rattle.std.proofs.lemmas.Bool.{cases_eq, cases_lt}
use Rattle.std.proofs.lemmas.List.{get_or-map, length-map, get_or_append_left, get_or-append-add, get_or_past, length_push}
use Rattle.std.proofs.lemmas.List.FromFn.{get_or-map-range_with_len, length-map-range_with_len}
use Rattle.std.proofs.lemmas.Option.{same_Some, none-some}
use Rattle.slab.specs.Slab.{Slab, get, Updates, slab_len}
use Rattle.st_ids.specs.Ends.{twin}
use Rattle.st_ids.specs.Graph.{Graph, HasEnds}
use Rattle.st_map.specs.declared.links.End.{End}
use Rattle.st_map.specs.Embedded.{Embedded, at}
use Rattle.st_map.specs.Orders.{HasNoLoop, order_at}
use Rattle.st_map.specs.Tables.{AreEdges, AreFirsts, AreListsLinked, IsBack, IsLawful, place_after}
use Rattle.st_map.specs.Links.{AreFirstKeys, AreLinks, AreNamed, IsLinked, ccw_at, cw_at, end_in, first_at, key_of, no_end}
use Rattle.st_map.specs.Chains.{AreFirstKeysOf, AreListsChained, IsListChained, chained_end, first_key, listed_end, place_before}
use Rattle.st_map.proofs.TableLemmas.{at_end, end_apart, end_below, place_inner, place_last, placed}
use Rattle.st_map.proofs.LinkLoops.{named_one}

-- ---- places in a cyclic list
after_in : (n k : ℕ) → k < n → place_after n k < n
after_in n k l = elim (cases_lt (k + 1) n) [
  | inl a ↦ omega (arith, place_inner n k a)
  | inr b ↦ omega (arith, place_last n k b)
]

pub before_in : (n k : ℕ) → k < n → place_before n k < n
before_in n zero l = omega arith
before_in n (suc k) l = omega arith

before_after : (n k : ℕ) → k < n → place_before n (place_after n k) ≡ k
before_after n k l = elim (cases_lt (k + 1) n) [
  | inl a ↦ ap (place_before n) (place_inner n k a)
  | inr b ↦ ap (place_before n) (place_last n k b) ∙ (let z : n - 1 ≡ k = omega arith in z)
]

pub before_next : (n k : ℕ) → place_before n (k + 1) ≡ k
before_next n k = ap (place_before n) (let z : k + 1 ≡ suc k = omega arith in z)

pub next_place : (k : ℕ) → suc k ≡ k + 1
next_place k = omega arith

-- ---- no end yet
pub chain_none : (s : Slab End) (keys ends : List (ℕ × ℕ)) (v : ℕ) (es : List ℕ) (k : ℕ) → AreNamed s (length keys) keys → k ≡ 0 → IsListChained s s keys ends v es k
chain_none s keys ends v es k named q = record {
  named = named;
  count = refl;
  done = λ j l. absurd (omega arith);
  others = λ d l n. refl;
}

-- ---- one end more
pub chain_more : (s0 s s' : Slab End) (keys ends : List (ℕ × ℕ)) (v : ℕ) (es : List ℕ) (k : ℕ) → length keys ≡ length ends → AreEdges ends es → IsLawful ends v es
    → k < length es → IsListChained s0 s keys ends v es k
    → Updates s s' (key_of keys (listed_end ends v es k)) (Some (chained_end keys ends v es k)) → slab_len s' ≡ slab_len s
    → IsListChained s0 s' keys ends v es (k + 1)
chain_more s0 s s' keys ends v es k size edges o lk h u len =
    let below : (j : ℕ) → j < length es → listed_end ends v es j < 2 * length keys =
    λ j l. (let z : listed_end ends v es j < 2 * length ends = end_below ends v (get_or es j 0) (edges j l) in omega arith) in
    record {
      named = record {
        size = refl;
        each = λ c l. elim (cases_eq (key_of keys c) (key_of keys (listed_end ends v es k))) [
          | inl q ↦ (
            chained_end keys ends v es k,
            ap (get s') q ∙ u.changed,
            sym (named_one s (length keys) keys h.named c (listed_end ends v es k) l (below k lk) q),
          )
          | inr n ↦ (let r = h.named.each c l in (r.0, u.others (key_of keys c) n ∙ r.1, r.2))
        ];
      };
      count = len ∙ h.count;
      done = λ j l. elim (cases_lt j k) [
        | inl a ↦
            u.others (key_of keys (listed_end ends v es j)) (λ q. o.once j k a lk (end_apart ends v (get_or es j 0) (get_or es k 0)
            (named_one s (length keys) keys h.named (listed_end ends v es j) (listed_end ends v es k) (below j (omega arith)) (below k lk) q)))
            ∙ h.done j a
        | inr b ↦
            let q : k ≡ j = omega arith in
            subst (λ z. get s' (key_of keys (listed_end ends v es z)) ≡ Some (chained_end keys ends v es z)) q u.changed
      ];
      others = λ d l n.
          u.others (key_of keys d) (λ q. n k (omega arith) (named_one s (length keys) keys h.named d (listed_end ends v es k) l (below k lk) q))
          ∙ h.others d l (λ j lj. n j (omega arith));
    }

-- ---- one list more
pub chains_more : (n : ℕ) (keys ends : List (ℕ × ℕ)) (orders : List (List ℕ)) → length keys ≡ length ends
    → ((v : ℕ) → v < n → AreEdges ends (order_at orders v)) → ((v : ℕ) → v < n → IsLawful ends v (order_at orders v))
    → (v : ℕ) (s s' : Slab End) → v < n → AreListsChained s keys ends orders v
    → IsListChained s s' keys ends v (order_at orders v) (length (order_at orders v)) → AreListsChained s' keys ends orders (v + 1)
chains_more n keys ends orders size edges lawful v s s' lv h r = record {
  named = r.named;
  done = λ u k l lk. elim (cases_lt u v) [
    | inl a ↦
        let g : Embedded = record { vertices = n; ends = ends; orders = [] } in
        let b : listed_end ends u (order_at orders u) k < 2 * length ends = end_below ends u (get_or (order_at orders u) k 0) (edges u (omega arith) k lk) in
        r.others (listed_end ends u (order_at orders u) k) (omega arith) (λ j lj q.
        (let same : u ≡ v = sym (at_end g u (get_or (order_at orders u) k 0) ((lawful u (omega arith)).only k lk)) ∙ ap (at g) q
        ∙ at_end g v (get_or (order_at orders v) j 0) ((lawful v lv).only j lj) in omega arith))
        ∙ h.done u k a lk
    | inr b ↦
        let e : v ≡ u = omega arith in
        subst (λ z. k < length (order_at orders z) → get s' (key_of keys (listed_end ends z (order_at orders z) k)) ≡ Some (chained_end keys ends z (order_at orders z) k)) e (λ lk2. r.done k lk2) lk
  ];
}

pub first_more : (keys ends : List (ℕ × ℕ)) (orders : List (List ℕ)) (v : ℕ) (found : List (Option ℕ)) (x : Option ℕ) → AreFirstKeysOf keys ends orders v found
    → x ≡ first_key keys ends v (order_at orders v) → AreFirstKeysOf keys ends orders (v + 1) (found ++ x ∷ [])
first_more keys ends orders v found x F q = record {
  size = length_push found x ∙ ap (λ z. z + 1) F.size;
  each = λ u l. elim (cases_lt u v) [
    | inl a ↦ get_or_append_left found (x ∷ []) None u (omega (arith, F.size)) ∙ F.each u a
    | inr b ↦
        let e : u ≡ v = omega arith in
        let p : u ≡ length found + 0 = omega (arith, F.size) in
        ap (λ k. get_or (found ++ x ∷ []) k None) p ∙ get_or-append-add found (x ∷ []) 0 None ∙ q ∙ ap (λ z. first_key keys ends z (order_at orders z)) (sym e)
  ];
}

pub first_none : (keys ends : List (ℕ × ℕ)) (v : ℕ) (es : List ℕ) → length es ≡ 0 → first_key keys ends v es ≡ None
first_none keys ends v [] q = refl
first_none keys ends v (e ∷ es) q = absurd (omega arith)

pub first_some : (keys ends : List (ℕ × ℕ)) (v : ℕ) (es : List ℕ) → 0 < length es → first_key keys ends v es ≡ Some (key_of keys (listed_end ends v es 0))
first_some keys ends v [] l = absurd (omega arith)
first_some keys ends v (e ∷ es) l = refl

-- ---- all lists
module _ (g : Graph) (orders : List (List ℕ)) (within : HasEnds g) (no_loop : HasNoLoop g)
    (listed : (v : ℕ) → v < g.vertices → AreEdges g.ends (order_at orders v)) (lawful : (v : ℕ) → v < g.vertices → IsLawful g.ends v (order_at orders v))
    (s : Slab End) (keys : List (ℕ × ℕ)) (size : length keys ≡ length g.ends) (C : AreListsChained s keys g.ends orders g.vertices) where
  below : (u k : ℕ) → u < g.vertices → k < length (order_at orders u) → listed_end g.ends u (order_at orders u) k < 2 * length keys
  below u k lu lk = (let z : listed_end g.ends u (order_at orders u) k < 2 * length g.ends = end_below g.ends u (get_or (order_at orders u) k 0) (listed u lu k lk) in omega arith)

  at_key : (u k : ℕ) → u < g.vertices → k < length (order_at orders u) → end_in s (key_of keys (listed_end g.ends u (order_at orders u) k)) ≡ chained_end keys g.ends u (order_at orders u) k
  at_key u k lu lk = ap (λ (o : Option End). unwrap_or o no_end) (C.done u k lu lk)

  dart_at : (u k : ℕ) → u < g.vertices → k < length (order_at orders u) → (end_in s (key_of keys (listed_end g.ends u (order_at orders u) k))).dart ≡ listed_end g.ends u (order_at orders u) k
  dart_at u k lu lk = ap (λ (r : End). r.dart) (at_key u k lu lk)

  cw_of : (u k : ℕ) → u < g.vertices → k < length (order_at orders u) → cw_at s keys (listed_end g.ends u (order_at orders u) k) ≡ listed_end g.ends u (order_at orders u) (place_after (length (order_at orders u)) k)
  cw_of u k lu lk =
      ap (λ (r : End). (end_in s r.cw).dart) (at_key u k lu lk) ∙ dart_at u (place_after (length (order_at orders u)) k) lu (after_in (length (order_at orders u)) k lk)

  ccw_of : (u k : ℕ) → u < g.vertices → k < length (order_at orders u) → ccw_at s keys (listed_end g.ends u (order_at orders u) k) ≡ listed_end g.ends u (order_at orders u) (place_before (length (order_at orders u)) k)
  ccw_of u k lu lk =
      ap (λ (r : End). (end_in s r.ccw).dart) (at_key u k lu lk) ∙ dart_at u (place_before (length (order_at orders u)) k) lu (before_in (length (order_at orders u)) k lk)

  place : (d : ℕ) → d < 2 * length keys → (v : ℕ) × (k : ℕ) × (v < g.vertices) × (k < length (order_at orders v)) × (listed_end g.ends v (order_at orders v) k ≡ d)
  place d l = placed g orders within no_loop listed lawful d (omega arith)

  there : (u k : ℕ) → u < g.vertices → k < length (order_at orders u)
      → get s (key_of keys (listed_end g.ends u (order_at orders u) k)) ≡ Some (record { dart = listed_end g.ends u (order_at orders u) k; twin = key_of keys (twin (listed_end g.ends u (order_at orders u) k)); cw = key_of keys (cw_at s keys (listed_end g.ends u (order_at orders u) k)); ccw = key_of keys (ccw_at s keys (listed_end g.ends u (order_at orders u) k)) })
  there u k lu lk =
      C.done u k lu lk
      ∙ ap (λ x. Some (let r : End = record { dart = listed_end g.ends u (order_at orders u) k; twin = key_of keys (twin (listed_end g.ends u (order_at orders u) k)); cw = key_of keys x; ccw = key_of keys (listed_end g.ends u (order_at orders u) (place_before (length (order_at orders u)) k)) } in r)) (sym (cw_of u k lu lk))
      ∙ ap (λ x. Some (let r : End = record { dart = listed_end g.ends u (order_at orders u) k; twin = key_of keys (twin (listed_end g.ends u (order_at orders u) k)); cw = key_of keys (cw_at s keys (listed_end g.ends u (order_at orders u) k)); ccw = key_of keys x } in r)) (sym (ccw_of u k lu lk))

  linked : IsLinked s (2 * length keys) (key_of keys) (λ d. key_of keys (twin d)) (cw_at s keys) (ccw_at s keys)
  linked = record {
    each = λ d l. (let p = place d l in
        subst (λ z. get s (key_of keys z) ≡ Some (record { dart = z; twin = key_of keys (twin z); cw = key_of keys (cw_at s keys z); ccw = key_of keys (ccw_at s keys z) })) p.4 (there p.0 p.1 p.2 p.3));
    cw_in = λ d l. (let p = place d l in
        subst (λ z. cw_at s keys z < 2 * length keys) p.4 (subst (λ z. z < 2 * length keys) (sym (cw_of p.0 p.1 p.2 p.3))
        (below p.0 (place_after (length (order_at orders p.0)) p.1) p.2 (after_in (length (order_at orders p.0)) p.1 p.3))));
    ccw_in = λ d l. (let p = place d l in
        subst (λ z. ccw_at s keys z < 2 * length keys) p.4 (subst (λ z. z < 2 * length keys) (sym (ccw_of p.0 p.1 p.2 p.3))
        (below p.0 (place_before (length (order_at orders p.0)) p.1) p.2 (before_in (length (order_at orders p.0)) p.1 p.3))));
  }

  pub chained_cw : AreListsLinked g.ends orders g.vertices (map (cw_at s keys) (range_with_len 0 (2 * length keys)))
  chained_cw = record {
    size = length-map-range_with_len (cw_at s keys) 0 (2 * length keys) ∙ ap (λ z. 2 * z) size;
    done = λ u k lu lk.
        get_or-map-range_with_len (cw_at s keys) 0 (2 * length keys) (listed_end g.ends u (order_at orders u) k) (listed_end g.ends u (order_at orders u) k) 0 (below u k lu lk) (omega arith) ∙ cw_of u k lu lk;
  }

  back : (u k : ℕ) → u < g.vertices → k < length (order_at orders u)
      → get_or (map (ccw_at s keys) (range_with_len 0 (2 * length keys))) (get_or (map (cw_at s keys) (range_with_len 0 (2 * length keys))) (listed_end g.ends u (order_at orders u) k) 0) 0 ≡ listed_end g.ends u (order_at orders u) k
  back u k lu lk =
      let la : place_after (length (order_at orders u)) k < length (order_at orders u) = after_in (length (order_at orders u)) k lk in
      ap (λ z. get_or (map (ccw_at s keys) (range_with_len 0 (2 * length keys))) z 0) (chained_cw.done u k lu lk)
      ∙ get_or-map-range_with_len (ccw_at s keys) 0 (2 * length keys) (listed_end g.ends u (order_at orders u) (place_after (length (order_at orders u)) k)) (listed_end g.ends u (order_at orders u) (place_after (length (order_at orders u)) k)) 0 (below u (place_after (length (order_at orders u)) k) lu la) (omega arith)
      ∙ ccw_of u (place_after (length (order_at orders u)) k) lu la
      ∙ ap (λ z. listed_end g.ends u (order_at orders u) z) (before_after (length (order_at orders u)) k lk)

  pub chained_ccw : IsBack (map (cw_at s keys) (range_with_len 0 (2 * length keys))) (map (ccw_at s keys) (range_with_len 0 (2 * length keys)))
  chained_ccw = record {
    size = length-map-range_with_len (ccw_at s keys) 0 (2 * length keys) ∙ sym (length-map-range_with_len (cw_at s keys) 0 (2 * length keys));
    each = λ d l. (let p = place d (omega (arith, length-map-range_with_len (cw_at s keys) 0 (2 * length keys))) in
        subst (λ z. get_or (map (ccw_at s keys) (range_with_len 0 (2 * length keys))) (get_or (map (cw_at s keys) (range_with_len 0 (2 * length keys))) z 0) 0 ≡ z) p.4 (back p.0 p.1 p.2 p.3));
  }

  module _ (found : List (Option ℕ)) (F : AreFirstKeysOf keys g.ends orders g.vertices found) where
    first_keys : AreFirstKeys (2 * length keys) (key_of keys) found
    first_keys v k q = elim (cases_lt v g.vertices) [
      | inl l ↦ elim (cases_lt 0 (length (order_at orders v))) [
        | inl a ↦ (listed_end g.ends v (order_at orders v) 0, below v 0 l a, same_Some k (key_of keys (listed_end g.ends v (order_at orders v) 0)) (sym q ∙ F.each v l ∙ first_some keys g.ends v (order_at orders v) a))
        | inr a ↦ absurd (none-some k (sym (F.each v l ∙ first_none keys g.ends v (order_at orders v) (omega arith)) ∙ q))
      ]
      | inr l ↦ absurd (none-some k (sym (get_or_past found v None (omega (arith, F.size))) ∙ q))
    ]

    pub chained_links : length keys < 2 ^ 30 → slab_len s ≡ 2 * length keys → AreLinks s keys found
    chained_links few count = record { few = few; linked = linked; firsts = first_keys; count = count }

    pub chained_firsts : AreFirsts g.vertices g.ends orders (map (first_at s) found)
    chained_firsts = record {
      size = length-map found (first_at s) ∙ F.size;
      each = λ v l a.
          get_or-map (first_at s) found v None 0 (omega (arith, F.size)) ∙ ap (first_at s) (F.each v l ∙ first_some keys g.ends v (order_at orders v) a) ∙ dart_at v 0 l a;
      none = λ v l z.
          get_or-map (first_at s) found v None 0 (omega (arith, F.size)) ∙ ap (first_at s) (F.each v l ∙ first_none keys g.ends v (order_at orders v) z);
    }
