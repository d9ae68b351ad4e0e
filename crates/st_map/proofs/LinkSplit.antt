-- Links with an edge split.
use Rattle.std.proofs.Common.{◌≡◌, ◌≢◌, ℕ, suc, ◌+◌, ◌*◌, ◌<◌, ◌^◌, eqb, List, [], ◌∷◌, ◌++◌, map, set, length, get_or, Option, Some, None, unwrap_or, inl, inr, cond, refl, sym, ap, ◌∙◌, subst, arith}
use Rattle.std.proofs.lemmas.Bool.{cases_eq, cases_lt, cond-true, cond-false, eq-eqb, ne_eqb}
use Rattle.std.proofs.lemmas.List.{get_or_append_left, get_or-append-add, get_or_past, length_push, length-set, get_or-set_same, get_or-set_other, map_push}
use Rattle.std.proofs.lemmas.Option.{same_Some, none-some}
use Rattle.slab.specs.Slab.{Slab, get}
use Rattle.st_ids.specs.Ends.{twin}
use Rattle.st_map.specs.declared.links.End.{End}
use Rattle.st_map.specs.Links.{AreLinks, IsLinked, LinkTables, SplitsEnds, ccw_at, cw_at, end_in, first_at, key_of, links_of, no_end}
use Rattle.st_map.specs.Tables.{AreLinksSplit, no_first, renumbered}
use Rattle.st_map.proofs.EndLemmas.{even_or_odd, twin-tail, twin-head}
use Rattle.st_map.proofs.SplitLemmas.{which}
use Rattle.st_map.proofs.LinkLemmas.{record_of, cw_is, ccw_is, dart_is, end_is, key_one, linked_by, cw_read, ccw_read, length-cw, length-ccw}
use Rattle.st_map.proofs.LinkLoops.{key_tail, key_head, key_same, last_pair, twin_below, map_same, some_apart}

-- records with the same parts
pub same_end : {a a' b b' c c' d d' : ℕ} → a ≡ a' → b ≡ b' → c ≡ c' → d ≡ d'
    → Some (let r : End = record { dart = a; twin = b; cw = c; ccw = d } in r) ≡ Some (let r : End = record { dart = a'; twin = b'; cw = c'; ccw = d' } in r)
same_end {a} {a'} {b} {b'} {c} {c'} {d} {d'} p q r s =
    ap (λ x. Some (let r : End = record { dart = x; twin = b; cw = c; ccw = d } in r)) p
    ∙ ap (λ x. Some (let r : End = record { dart = a'; twin = x; cw = c; ccw = d } in r)) q
    ∙ ap (λ x. Some (let r : End = record { dart = a'; twin = b'; cw = x; ccw = d } in r)) r
    ∙ ap (λ x. Some (let r : End = record { dart = a'; twin = b'; cw = c'; ccw = x } in r)) s

module _ (e m : ℕ) (le : e < m) where
  end : ℕ
  end = 2 * e + 1

  -- the number of an end afterwards
  unfoldable pub ren : ℕ → ℕ
  ren d = renumbered (2 * e + 1) (suc (2 * m)) d

  pub ren_end : ren (2 * e + 1) ≡ suc (2 * m)
  unfolding ren
  ren_end = cond-true (eqb (2 * e + 1) (2 * e + 1)) (suc (2 * m)) (2 * e + 1) (eq-eqb (2 * e + 1) (2 * e + 1) refl)

  pub ren_other : (d : ℕ) → d ≢ 2 * e + 1 → ren d ≡ d
  unfolding ren
  ren_other d n = cond-false (eqb d (2 * e + 1)) (suc (2 * m)) d (ne_eqb d (2 * e + 1) n)

  ren_in : (d : ℕ) → d < 2 * m → ren d < suc (suc (2 * m))
  ren_in d l = elim (cases_eq d (2 * e + 1)) [
    | inl q ↦ (let z : ren d ≡ suc (2 * m) = ap ren q ∙ ren_end in omega arith)
    | inr n ↦ (let z : ren d ≡ d = ren_other d n in omega arith)
  ]

  -- what an end goes to afterwards, where it went to f
  unfoldable pub after : (ℕ → ℕ) → ℕ → ℕ
  after f d = cond (eqb d (2 * e + 1)) (2 * m) (cond (eqb d (2 * m)) (2 * e + 1) (cond (eqb d (suc (2 * m))) (ren (f (2 * e + 1))) (ren (f d))))

  pub after_end : (f : ℕ → ℕ) → after f (2 * e + 1) ≡ 2 * m
  unfolding after
  after_end f = cond-true (eqb (2 * e + 1) (2 * e + 1)) (2 * m) _ (eq-eqb (2 * e + 1) (2 * e + 1) refl)

  pub after_out : (f : ℕ → ℕ) → after f (2 * m) ≡ 2 * e + 1
  unfolding after
  after_out f = cond-false (eqb (2 * m) (2 * e + 1)) (2 * m) _ (ne_eqb (2 * m) (2 * e + 1) (λ q. omega arith)) ∙ cond-true (eqb (2 * m) (2 * m)) (2 * e + 1) _ (eq-eqb (2 * m) (2 * m) refl)

  pub after_place : (f : ℕ → ℕ) → after f (suc (2 * m)) ≡ ren (f (2 * e + 1))
  unfolding after
  after_place f = cond-false (eqb (suc (2 * m)) (2 * e + 1)) (2 * m) _ (ne_eqb (suc (2 * m)) (2 * e + 1) (λ q. omega arith))
      ∙ cond-false (eqb (suc (2 * m)) (2 * m)) (2 * e + 1) _ (ne_eqb (suc (2 * m)) (2 * m) (λ q. omega arith))
      ∙ cond-true (eqb (suc (2 * m)) (suc (2 * m))) (ren (f (2 * e + 1))) _ (eq-eqb (suc (2 * m)) (suc (2 * m)) refl)

  pub after_old : (f : ℕ → ℕ) (d : ℕ) → d < 2 * m → d ≢ 2 * e + 1 → after f d ≡ ren (f d)
  unfolding after
  after_old f d l n = cond-false (eqb d (2 * e + 1)) (2 * m) _ (ne_eqb d (2 * e + 1) n)
      ∙ cond-false (eqb d (2 * m)) (2 * e + 1) _ (ne_eqb d (2 * m) (λ q. omega arith))
      ∙ cond-false (eqb d (suc (2 * m))) (ren (f (2 * e + 1))) _ (ne_eqb d (suc (2 * m)) (λ q. omega arith))

  after_in : (f : ℕ → ℕ) → ((d : ℕ) → d < 2 * m → f d < 2 * m) → (d : ℕ) → d < suc (suc (2 * m)) → after f d < suc (suc (2 * m))
  after_in f h d l = elim (which (2 * m) d l) [
    | inl k ↦ elim (cases_eq d (2 * e + 1)) [
      | inl q ↦ (let z : after f d ≡ 2 * m = ap (after f) q ∙ after_end f in omega arith)
      | inr n ↦ subst (λ z. z < suc (suc (2 * m))) (sym (after_old f d k n)) (ren_in (f d) (h d k))
    ]
    | inr w ↦ elim w [
      | inl q ↦ (let z : after f d ≡ 2 * e + 1 = ap (after f) q ∙ after_out f in omega arith)
      | inr q ↦ subst (λ z. z < suc (suc (2 * m))) (sym (ap (after f) q ∙ after_place f)) (ren_in (f (2 * e + 1)) (h (2 * e + 1) (omega arith)))
    ]
  ]

  -- tables of f and of what comes of it
  pub split_table : (old new : List ℕ) (f : ℕ → ℕ) → length old ≡ 2 * m → length new ≡ suc (suc (2 * m)) → ((d : ℕ) → d < 2 * m → get_or old d 0 ≡ f d)
      → ((d : ℕ) → d < suc (suc (2 * m)) → get_or new d 0 ≡ after f d) → AreLinksSplit old (2 * e + 1) new
  unfolding ren
  split_table old new f a b was is =
      let r : (d : ℕ) → d < 2 * m → ren (f d) ≡ renumbered (2 * e + 1) (suc (length old)) (get_or old d 0) =
      λ d l. ap (λ z. renumbered (2 * e + 1) (suc z) (f d)) (sym a) ∙ ap (renumbered (2 * e + 1) (suc (length old))) (sym (was d l)) in
      record {
        size = b ∙ ap (λ z. suc (suc z)) (sym a);
        kept = λ d l n. is d (omega arith) ∙ after_old f d (omega arith) n ∙ r d (omega arith);
        split = is (2 * e + 1) (omega arith) ∙ after_end f ∙ sym a;
        out = ap (λ z. get_or new z 0) a ∙ is (2 * m) (omega arith) ∙ after_out f;
        place = ap (λ z. get_or new (suc z) 0) a ∙ is (suc (2 * m)) (omega arith) ∙ after_place f ∙ r (2 * e + 1) (omega arith);
      }

module _ (s s' : Slab End) (keys : List (ℕ × ℕ)) (first : List (Option ℕ)) (e own out : ℕ) (le : e < length keys) (A : AreLinks s keys first)
    (S : SplitsEnds s s' e (length keys) (get_or keys e (0, 0)).0 (get_or keys e (0, 0)).1 own out) where
  m : ℕ
  m = length keys

  f : ℕ → ℕ
  f = cw_at s keys

  g : ℕ → ℕ
  g = ccw_at s keys

  tw : ℕ → ℕ
  tw d = key_of keys (twin d)

  abbrev pub keys_after : List (ℕ × ℕ)
  keys_after = set keys e ((get_or keys e (0, 0)).0, own) ++ (out, (get_or keys e (0, 0)).1) ∷ []

  abbrev pub first_after : List (Option ℕ)
  first_after = first ++ Some out ∷ []

  long : length (set keys e ((get_or keys e (0, 0)).0, own)) ≡ length keys
  long = length-set keys e ((get_or keys e (0, 0)).0, own)

  pub length-keys_after : length keys_after ≡ suc (length keys)
  length-keys_after = length_push (set keys e ((get_or keys e (0, 0)).0, own)) (out, (get_or keys e (0, 0)).1) ∙ (let z : length (set keys e ((get_or keys e (0, 0)).0, own)) + 1 ≡ suc (length keys) = omega (arith, long) in z)

  old_pair : (k : ℕ) → k < length keys → get_or keys_after k (0, 0) ≡ get_or (set keys e ((get_or keys e (0, 0)).0, own)) k (0, 0)
  old_pair k l = get_or_append_left (set keys e ((get_or keys e (0, 0)).0, own)) ((out, (get_or keys e (0, 0)).1) ∷ []) (0, 0) k (omega (arith, long))

  cut_pair : get_or keys_after e (0, 0) ≡ ((get_or keys e (0, 0)).0, own)
  cut_pair = old_pair e le ∙ get_or-set_same keys e ((get_or keys e (0, 0)).0, own) (0, 0) le

  new_pair : get_or keys_after (length keys) (0, 0) ≡ (out, (get_or keys e (0, 0)).1)
  new_pair = last_pair (set keys e ((get_or keys e (0, 0)).0, own)) (out, (get_or keys e (0, 0)).1) (length keys) (sym long)

  key' : ℕ → ℕ
  key' = key_of keys_after

  key_own : key_of keys_after (2 * e + 1) ≡ own
  key_own = key_head keys_after e ∙ ap (λ (p : ℕ × ℕ). p.1) cut_pair

  key_e : key_of keys_after (2 * e) ≡ key_of keys (2 * e)
  key_e = key_tail keys_after e ∙ ap (λ (p : ℕ × ℕ). p.0) cut_pair ∙ sym (key_tail keys e)

  key_out : key_of keys_after (2 * length keys) ≡ out
  key_out = key_tail keys_after (length keys) ∙ ap (λ (p : ℕ × ℕ). p.0) new_pair

  key_place : key_of keys_after (suc (2 * length keys)) ≡ key_of keys (2 * e + 1)
  key_place = ap (key_of keys_after) (let z : suc (2 * length keys) ≡ 2 * length keys + 1 = omega arith in z) ∙ key_head keys_after (length keys) ∙ ap (λ (p : ℕ × ℕ). p.1) new_pair ∙ sym (key_head keys e)

  key_old : (d : ℕ) → d < 2 * length keys → d ≢ 2 * e + 1 → key_of keys_after d ≡ key_of keys d
  key_old d l n = elim (cases_eq d (2 * e)) [
    | inl q ↦ ap (key_of keys_after) q ∙ key_e ∙ ap (key_of keys) (sym q)
    | inr u ↦ key_same keys keys_after d (λ k w. elim w [
      | inl q ↦ old_pair k (omega arith) ∙ get_or-set_other keys e k ((get_or keys e (0, 0)).0, own) (0, 0) (λ p. u (q ∙ ap (λ z. 2 * z) p))
      | inr q ↦ old_pair k (omega arith) ∙ get_or-set_other keys e k ((get_or keys e (0, 0)).0, own) (0, 0) (λ p. n (q ∙ ap (λ z. 2 * z + 1) p))
    ])
  ]

  key_ren : (d : ℕ) → d < 2 * length keys → key_of keys_after (ren e (length keys) le d) ≡ key_of keys d
  key_ren d l = elim (cases_eq d (2 * e + 1)) [
    | inl q ↦ ap (λ z. key_of keys_after (ren e (length keys) le z)) q ∙ ap (key_of keys_after) (ren_end e (length keys) le) ∙ key_place ∙ ap (key_of keys) (sym q)
    | inr n ↦ ap (key_of keys_after) (ren_other e (length keys) le d n) ∙ key_old d l n
  ]

  L : IsLinked s (2 * length keys) (key_of keys) (λ d. key_of keys (twin d)) (cw_at s keys) (ccw_at s keys)
  L = A.linked

  -- no old record has a new key
  not_own : (d : ℕ) → d < 2 * length keys → key_of keys d ≢ own
  not_own d l = some_apart s (key_of keys d) own (record_of (key_of keys) (λ d. key_of keys (twin d)) (cw_at s keys) (ccw_at s keys) d) (L.each d l) S.own_new

  not_out : (d : ℕ) → d < 2 * length keys → key_of keys d ≢ out
  not_out d l = some_apart s (key_of keys d) out (record_of (key_of keys) (λ d. key_of keys (twin d)) (cw_at s keys) (ccw_at s keys) d) (L.each d l) S.out_new

  one : (c d : ℕ) → c < 2 * length keys → d < 2 * length keys → key_of keys c ≡ key_of keys d → c ≡ d
  one = key_one s (2 * length keys) (key_of keys) (λ d. key_of keys (twin d)) (cw_at s keys) (ccw_at s keys) L

  rec : (d : ℕ) → d < 2 * length keys → end_in s (key_of keys d) ≡ record_of (key_of keys) (λ d. key_of keys (twin d)) (cw_at s keys) (ccw_at s keys) d
  rec = end_is s (2 * length keys) (key_of keys) (λ d. key_of keys (twin d)) (cw_at s keys) (ccw_at s keys) L

  end_below : 2 * e + 1 < 2 * length keys
  end_below = omega (arith, le)

  after_split : IsLinked s' (suc (suc (2 * length keys))) (key_of keys_after) (λ d. key_of keys_after (twin d)) (after e (length keys) le (cw_at s keys)) (after e (length keys) le (ccw_at s keys))
  after_split = record {
    each = λ d l. elim (which (2 * length keys) d l) [
      | inl k ↦ elim (cases_eq d (2 * e + 1)) [
        | inl q ↦ ap (λ z. get s' (key_of keys_after z)) q ∙ ap (get s') key_own ∙ S.at_own
            ∙ same_end (sym q) (sym (ap (λ z. key_of keys_after (twin z)) q ∙ ap (key_of keys_after) (twin-head e) ∙ key_e ∙ key_tail keys e))
            (sym (ap (λ z. key_of keys_after (after e (length keys) le (cw_at s keys) z)) q ∙ ap (key_of keys_after) (after_end e (length keys) le (cw_at s keys)) ∙ key_out))
            (sym (ap (λ z. key_of keys_after (after e (length keys) le (ccw_at s keys) z)) q ∙ ap (key_of keys_after) (after_end e (length keys) le (ccw_at s keys)) ∙ key_out))
        | inr n ↦
            let fw : key_of keys (cw_at s keys d) ≡ key_of keys_after (after e (length keys) le (cw_at s keys) d) = sym (ap (key_of keys_after) (after_old e (length keys) le (cw_at s keys) d k n) ∙ key_ren (cw_at s keys d) (L.cw_in d k)) in
            let bw : key_of keys (ccw_at s keys d) ≡ key_of keys_after (after e (length keys) le (ccw_at s keys) d) = sym (ap (key_of keys_after) (after_old e (length keys) le (ccw_at s keys) d k n) ∙ key_ren (ccw_at s keys d) (L.ccw_in d k)) in
            elim (cases_eq d (2 * e)) [
              | inl q ↦
                  let r = rec d k in
                  let t : end_in s (get_or keys e (0, 0)).0 ≡ record_of (key_of keys) (λ d. key_of keys (twin d)) (cw_at s keys) (ccw_at s keys) d = ap (end_in s) (sym (ap (key_of keys) q ∙ key_tail keys e)) ∙ r in
                  ap (get s') (key_old d k n ∙ ap (key_of keys) q ∙ key_tail keys e) ∙ S.at_tail
                  ∙ same_end (ap (λ (z : End). z.dart) t) (sym (ap (λ z. key_of keys_after (twin z)) q ∙ ap (key_of keys_after) (twin-tail e) ∙ key_own)) (ap (λ (z : End). z.cw) t ∙ fw) (ap (λ (z : End). z.ccw) t ∙ bw)
              | inr u ↦
                  let t : twin d < 2 * length keys = twin_below d (length keys) k in
                  let tn : twin d ≢ 2 * e + 1 = other_twin d u in
                  ap (get s') (key_old d k n)
                  ∙ S.others (key_of keys d) (λ p. u (one d (2 * e) k (omega arith) (p ∙ sym (key_tail keys e)))) (λ p. n (one d (2 * e + 1) k end_below (p ∙ sym (key_head keys e)))) (not_own d k) (not_out d k)
                  ∙ L.each d k ∙ same_end refl (sym (key_old (twin d) t tn)) fw bw
            ]
      ]
      | inr w ↦ elim w [
        | inl q ↦ ap (λ z. get s' (key_of keys_after z)) q ∙ ap (get s') key_out ∙ S.at_out
            ∙ same_end (sym q) (sym (ap (λ z. key_of keys_after (twin z)) q ∙ ap (key_of keys_after) (twin-tail (length keys) ∙ (let z : 2 * length keys + 1 ≡ suc (2 * length keys) = omega arith in z)) ∙ key_place ∙ key_head keys e))
            (sym (ap (λ z. key_of keys_after (after e (length keys) le (cw_at s keys) z)) q ∙ ap (key_of keys_after) (after_out e (length keys) le (cw_at s keys)) ∙ key_own))
            (sym (ap (λ z. key_of keys_after (after e (length keys) le (ccw_at s keys) z)) q ∙ ap (key_of keys_after) (after_out e (length keys) le (ccw_at s keys)) ∙ key_own))
        | inr q ↦
            let r = rec (2 * e + 1) end_below in
            let t : end_in s (get_or keys e (0, 0)).1 ≡ record_of (key_of keys) (λ d. key_of keys (twin d)) (cw_at s keys) (ccw_at s keys) (2 * e + 1) = ap (end_in s) (sym (key_head keys e)) ∙ r in
            let q' : d ≡ 2 * length keys + 1 = omega arith in
            ap (λ z. get s' (key_of keys_after z)) q ∙ ap (get s') (key_place ∙ key_head keys e) ∙ S.at_head
            ∙ same_end (sym q') (sym (ap (λ z. key_of keys_after (twin z)) q' ∙ ap (key_of keys_after) (twin-head (length keys)) ∙ key_out))
            (ap (λ (z : End). z.cw) t ∙ sym (ap (λ z. key_of keys_after (after e (length keys) le (cw_at s keys) z)) q ∙ ap (key_of keys_after) (after_place e (length keys) le (cw_at s keys)) ∙ key_ren (cw_at s keys (2 * e + 1)) (L.cw_in (2 * e + 1) end_below)))
            (ap (λ (z : End). z.ccw) t ∙ sym (ap (λ z. key_of keys_after (after e (length keys) le (ccw_at s keys) z)) q ∙ ap (key_of keys_after) (after_place e (length keys) le (ccw_at s keys)) ∙ key_ren (ccw_at s keys (2 * e + 1)) (L.ccw_in (2 * e + 1) end_below)))
      ]
    ];
    cw_in = after_in e (length keys) le (cw_at s keys) L.cw_in;
    ccw_in = after_in e (length keys) le (ccw_at s keys) L.ccw_in;
  }
    where
      other_twin : (d : ℕ) → d ≢ 2 * e → twin d ≢ 2 * e + 1
      other_twin d u t = elim (even_or_odd d) [
        | inl r ↦ (let z : twin d ≡ 2 * r.0 + 1 = ap twin r.1 ∙ twin-tail r.0 in u (r.1 ∙ (let w : 2 * r.0 ≡ 2 * e = omega arith in w)))
        | inr r ↦ (let z : twin d ≡ 2 * r.0 = ap twin r.1 ∙ twin-head r.0 in omega arith)
      ]

  linked_after : IsLinked s' (2 * length keys_after) (key_of keys_after) (λ d. key_of keys_after (twin d)) (after e (length keys) le (cw_at s keys)) (after e (length keys) le (ccw_at s keys))
  linked_after = subst (λ z. IsLinked s' z (key_of keys_after) (λ d. key_of keys_after (twin d)) (after e (length keys) le (cw_at s keys)) (after e (length keys) le (ccw_at s keys)))
      (let z : suc (suc (2 * length keys)) ≡ 2 * length keys_after = omega (arith, length-keys_after) in z) after_split

  pub links_after : suc (length keys) < 2 ^ 30 → AreLinks s' keys_after first_after
  links_after few = record {
    few = subst (λ z. z < 2 ^ 30) (sym length-keys_after) few;
    linked = linked_by s' keys_after (λ d. key_of keys_after (twin d)) (after e (length keys) le (cw_at s keys)) (after e (length keys) le (ccw_at s keys)) linked_after;
    firsts = λ v k q. elim (cases_lt v (length first)) [
      | inl l ↦
          let r = A.firsts v k (sym (get_or_append_left first (Some out ∷ []) None v l) ∙ q) in
          (ren e (length keys) le r.0, subst (λ z. ren e (length keys) le r.0 < z) (let z : suc (suc (2 * length keys)) ≡ 2 * length keys_after = omega (arith, length-keys_after) in z) (ren_in e (length keys) le r.0 r.1), r.2 ∙ sym (key_ren r.0 r.1))
      | inr l ↦ elim (cases_eq v (length first)) [
        | inl w ↦ (
          2 * length keys,
          omega (arith, length-keys_after),
          sym (same_Some out k (sym (ap (λ j. get_or first_after j None) (let z : v ≡ length first + 0 = omega arith in z) ∙ get_or-append-add first (Some out ∷ []) 0 None) ∙ q)) ∙ sym key_out,
        )
        | inr w ↦ absurd (none-some k (sym (get_or_past first_after v None (omega (arith, length_push first (Some out)))) ∙ q))
      ]
    ];
    count = S.count ∙ ap (λ z. z + 2) A.count ∙ (let z : 2 * length keys + 2 ≡ 2 * length keys_after = omega (arith, length-keys_after) in z);
  }

  module _ (p q p' q' : ℕ) where
    old : LinkTables
    old = links_of s keys first p q

    pub cw_after : AreLinksSplit (links_of s keys first p q).cw (2 * e + 1) (links_of s' keys_after first_after p' q').cw
    cw_after = split_table e (length keys) le (links_of s keys first p q).cw (links_of s' keys_after first_after p' q').cw (cw_at s keys)
        (length-cw s keys first p q) (length-cw s' keys_after first_after p' q' ∙ (let z : 2 * length keys_after ≡ suc (suc (2 * length keys)) = omega (arith, length-keys_after) in z))
        (cw_read s keys first p q)
        (λ d l. let k : d < 2 * length keys_after = omega (arith, length-keys_after) in
        cw_read s' keys_after first_after p' q' d k ∙ cw_is s' (2 * length keys_after) (key_of keys_after) (λ d. key_of keys_after (twin d)) (after e (length keys) le (cw_at s keys)) (after e (length keys) le (ccw_at s keys)) linked_after d k)

    pub ccw_after : AreLinksSplit (links_of s keys first p q).ccw (2 * e + 1) (links_of s' keys_after first_after p' q').ccw
    ccw_after = split_table e (length keys) le (links_of s keys first p q).ccw (links_of s' keys_after first_after p' q').ccw (ccw_at s keys)
        (length-ccw s keys first p q) (length-ccw s' keys_after first_after p' q' ∙ (let z : 2 * length keys_after ≡ suc (suc (2 * length keys)) = omega (arith, length-keys_after) in z))
        (ccw_read s keys first p q)
        (λ d l. let k : d < 2 * length keys_after = omega (arith, length-keys_after) in
        ccw_read s' keys_after first_after p' q' d k ∙ ccw_is s' (2 * length keys_after) (key_of keys_after) (λ d. key_of keys_after (twin d)) (after e (length keys) le (cw_at s keys)) (after e (length keys) le (ccw_at s keys)) linked_after d k)

    -- the first end of an old vertex
    first_ren : (v : ℕ) → v < length first → first_at s' (get_or first v None) ≡ renumbered (2 * e + 1) (suc (2 * length keys)) (first_at s (get_or first v None))
    unfolding ren
    first_ren v l = by_key (get_or first v None) refl
      where
        by_key : (o : Option ℕ) → get_or first v None ≡ o → first_at s' o ≡ renumbered (2 * e + 1) (suc (2 * length keys)) (first_at s o)
        by_key None q = sym (ren_other e (length keys) le no_first (λ q. omega (arith, le, A.few)))
        by_key (Some k) q =
            let r = A.firsts v k q in
            let n : ren e (length keys) le r.0 < 2 * length keys_after = (let z : ren e (length keys) le r.0 < suc (suc (2 * length keys)) = ren_in e (length keys) le r.0 r.1 in omega (arith, length-keys_after)) in
            ap (λ j. (end_in s' j).dart) (r.2 ∙ sym (key_ren r.0 r.1))
            ∙ dart_is s' (2 * length keys_after) (key_of keys_after) (λ d. key_of keys_after (twin d)) (after e (length keys) le (cw_at s keys)) (after e (length keys) le (ccw_at s keys)) linked_after (ren e (length keys) le r.0) n
            ∙ ap (ren e (length keys) le) (sym (ap (λ j. (end_in s j).dart) r.2 ∙ dart_is s (2 * length keys) (key_of keys) (λ d. key_of keys (twin d)) (cw_at s keys) (ccw_at s keys) L r.0 r.1))

    pub first_after_is : (links_of s' keys_after first_after p' q').first ≡ map (renumbered (2 * e + 1) (suc (length (links_of s keys first p q).cw))) (links_of s keys first p q).first ++ length (links_of s keys first p q).cw ∷ []
    first_after_is =
        map_push (first_at s') first (Some out)
        ∙ ap (λ (zs : List ℕ). zs ++ first_at s' (Some out) ∷ []) (map_same first None (first_at s') (λ o. renumbered (2 * e + 1) (suc (2 * length keys)) (first_at s o)) first_ren ∙ over first)
        ∙ ap (λ z. map (renumbered (2 * e + 1) (suc (2 * length keys))) (map (first_at s) first) ++ z ∷ []) (ap (λ (o : Option End). (unwrap_or o no_end).dart) S.at_out)
        ∙ ap (λ z. map (renumbered (2 * e + 1) (suc z)) (map (first_at s) first) ++ z ∷ []) (sym (length-cw s keys first p q))
      where
        over : (xs : List (Option ℕ)) → map (λ o. renumbered (2 * e + 1) (suc (2 * length keys)) (first_at s o)) xs ≡ map (renumbered (2 * e + 1) (suc (2 * length keys))) (map (first_at s) xs)
        over [] = refl
        over (x ∷ xs) = ap (λ (zs : List ℕ). renumbered (2 * e + 1) (suc (2 * length keys)) (first_at s x) ∷ zs) (over xs)
