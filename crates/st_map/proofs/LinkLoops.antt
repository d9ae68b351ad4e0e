-- Records that get their names, links copied and given room.
use Rattle.std.proofs.Common.{◌≡◌, ◌≢◌, ℕ, suc, ◌+◌, ◌*◌, ◌<◌, ◌⊎◌, List, [], ◌∷◌, ◌++◌, map, length, get_or, Option, Some, None, unwrap_or, inl, inr, refl, sym, ap, ◌∙◌, subst, arith}
use Rattle.std.specs.List.{AllZip, range_with_len}
use Rattle.std.proofs.lemmas.Bool.{cond-true, cond-false}
use Rattle.std.proofs.lemmas.List.{get_or_append_left, get_or-append-add, length_push}
use Rattle.std.proofs.lemmas.List.FromFn.{get_or-map-range_with_len, length-map-range_with_len, fill_by_all}
use Rattle.std.proofs.lemmas.Option.{same_Some, none-some}
use Rattle.slab.specs.Slab.{IsSlotClone, Slab, get, Updates, slab_len}
use Rattle.st_ids.specs.Ends.{twin, edge_of, is_out}
use Rattle.st_map.specs.declared.links.End.{End}
use Rattle.st_map.specs.Links.{AreLinks, AreNamed, IsLinked, ccw_at, cw_at, first_at, key_of, no_end}
use Rattle.st_map.proofs.EndLemmas.{even_or_odd, is_out-tail, is_out-head, edge_of-tail, edge_of-head, twin-tail, twin-head}
use Rattle.st_map.proofs.SplitLemmas.{which}
use Rattle.st_map.proofs.LinkLemmas.{cw_is, ccw_is, linked_by}

-- ---- keys
pub key_tail : (keys : List (ℕ × ℕ)) (k : ℕ) → key_of keys (2 * k) ≡ (get_or keys k (0, 0)).0
key_tail keys k =
    cond-true (is_out (2 * k)) (get_or keys (edge_of (2 * k)) (0, 0)).0 (get_or keys (edge_of (2 * k)) (0, 0)).1 (is_out-tail k)
    ∙ ap (λ z. (get_or keys z (0, 0)).0) (edge_of-tail k)

pub key_head : (keys : List (ℕ × ℕ)) (k : ℕ) → key_of keys (2 * k + 1) ≡ (get_or keys k (0, 0)).1
key_head keys k =
    cond-false (is_out (2 * k + 1)) (get_or keys (edge_of (2 * k + 1)) (0, 0)).0 (get_or keys (edge_of (2 * k + 1)) (0, 0)).1 (is_out-head k)
    ∙ ap (λ z. (get_or keys z (0, 0)).1) (edge_of-head k)

-- keys of two lists that agree at an edge
pub key_same : (keys keys' : List (ℕ × ℕ)) (d : ℕ) → ((k : ℕ) → (d ≡ 2 * k) ⊎ (d ≡ 2 * k + 1) → get_or keys' k (0, 0) ≡ get_or keys k (0, 0)) → key_of keys' d ≡ key_of keys d
key_same keys keys' d h = elim (even_or_odd d) [
  | inl r ↦ ap (key_of keys') r.1 ∙ key_tail keys' r.0 ∙ ap (λ (p : ℕ × ℕ). p.0) (h r.0 (inl r.1)) ∙ sym (ap (key_of keys) r.1 ∙ key_tail keys r.0)
  | inr r ↦ ap (key_of keys') r.1 ∙ key_head keys' r.0 ∙ ap (λ (p : ℕ × ℕ). p.1) (h r.0 (inr r.1)) ∙ sym (ap (key_of keys) r.1 ∙ key_head keys r.0)
]

below_edge : (d k m : ℕ) → d < 2 * m → (d ≡ 2 * k) ⊎ (d ≡ 2 * k + 1) → k < m
below_edge d k m l (inl q) = omega arith
below_edge d k m l (inr q) = omega arith

pub key_push : (keys : List (ℕ × ℕ)) (p : ℕ × ℕ) (d : ℕ) → d < 2 * length keys → key_of (keys ++ p ∷ []) d ≡ key_of keys d
key_push keys p d l = key_same keys (keys ++ p ∷ []) d (λ k w. get_or_append_left keys (p ∷ []) (0, 0) k (below_edge d k (length keys) l w))

pub last_pair : (keys : List (ℕ × ℕ)) (p : ℕ × ℕ) (m : ℕ) → m ≡ length keys → get_or (keys ++ p ∷ []) m (0, 0) ≡ p
last_pair keys p m q = ap (λ k. get_or (keys ++ p ∷ []) k (0, 0)) (let z : m ≡ length keys + 0 = omega arith in z) ∙ get_or-append-add keys (p ∷ []) 0 (0, 0)

pub twin_below : (d m : ℕ) → d < 2 * m → twin d < 2 * m
twin_below d m l = elim (even_or_odd d) [
  | inl r ↦ (let z : d ≡ 2 * r.0 = r.1 in let w : twin d ≡ 2 * r.0 + 1 = ap twin r.1 ∙ twin-tail r.0 in omega arith)
  | inr r ↦ (let z : d ≡ 2 * r.0 + 1 = r.1 in let w : twin d ≡ 2 * r.0 = ap twin r.1 ∙ twin-head r.0 in omega arith)
]

-- ---- a list by its entries
pub map_range_same : (n : ℕ) (f g : ℕ → ℕ) → ((d : ℕ) → d < n → f d ≡ g d) → map f (range_with_len 0 n) ≡ map g (range_with_len 0 n)
map_range_same n f g h =
    fill_by_all g (map f (range_with_len 0 n)) n 0 (length-map-range_with_len f 0 n)
    (λ k l. get_or-map-range_with_len f 0 n k k 0 l (omega arith) ∙ h k l)

pub map_same : {X : Type 0} (xs : List X) (e : X) (f g : X → ℕ) → ((v : ℕ) → v < length xs → f (get_or xs v e) ≡ g (get_or xs v e)) → map f xs ≡ map g xs
map_same [] e f g h = refl
map_same (x ∷ xs) e f g h = ap (λ z. z ∷ map f xs) (h 0 (omega arith)) ∙ ap (λ (zs : List ℕ). g x ∷ zs) (map_same xs e f g (λ v l. h (suc v) (omega arith)))

-- ---- what the slab finds
pub some_apart : (s : Slab End) (j k : ℕ) (r : End) → get s j ≡ Some r → get s k ≡ None → j ≢ k
some_apart s j k r p q e = none-some r (sym q ∙ ap (get s) (sym e) ∙ p)

-- ---- an edge more
pub named_more : (s0 s s1 s2 : Slab End) (e : ℕ) (keys : List (ℕ × ℕ)) (a b : ℕ) (r1 r2 : End) → AreNamed s0 e keys → ((k : ℕ) → get s k ≡ get s0 k)
    → get s a ≡ None → Updates s s1 a (Some r1) → r1.dart ≡ 2 * e → get s1 b ≡ None → Updates s1 s2 b (Some r2) → r2.dart ≡ 2 * e + 1
    → AreNamed s2 (e + 1) (keys ++ (a, b) ∷ [])
named_more s0 s s1 s2 e keys a b r1 r2 N same va u1 q1 vb u2 q2 = record {
  size = length_push keys (a, b) ∙ ap (λ z. z + 1) N.size;
  each = λ d l. elim (which (2 * e) d (omega arith)) [
    | inl k ↦
        let n = N.each d k in
        let here : get s (key_of keys d) ≡ Some n.0 = same (key_of keys d) ∙ n.1 in
        let one : get s1 (key_of keys d) ≡ Some n.0 = u1.others (key_of keys d) (some_apart s (key_of keys d) a n.0 here va) ∙ here in
        let two : get s2 (key_of keys d) ≡ Some n.0 = u2.others (key_of keys d) (some_apart s1 (key_of keys d) b n.0 one vb) ∙ one in
        (n.0, ap (get s2) (key_push keys (a, b) d (omega (arith, N.size))) ∙ two, n.2)
    | inr w ↦ elim w [
      | inl q ↦ (
        r1,
        ap (get s2) (ap (key_of (keys ++ (a, b) ∷ [])) q ∙ key_tail (keys ++ (a, b) ∷ []) e ∙ ap (λ (p : ℕ × ℕ). p.0) (last_pair keys (a, b) e (sym N.size)))
            ∙ u2.others a (some_apart s1 a b r1 u1.changed vb) ∙ u1.changed,
        q1 ∙ sym q,
      )
      | inr q ↦ (
        r2,
        ap (get s2) (ap (key_of (keys ++ (a, b) ∷ [])) (q ∙ (let z : suc (2 * e) ≡ 2 * e + 1 = omega arith in z)) ∙ key_head (keys ++ (a, b) ∷ []) e ∙ ap (λ (p : ℕ × ℕ). p.1) (last_pair keys (a, b) e (sym N.size)))
            ∙ u2.changed,
        q2 ∙ (let z : 2 * e + 1 ≡ suc (2 * e) = omega arith in z) ∙ sym q,
      )
    ]
  ];
}

-- ---- an end by its key
pub named_one : (s : Slab End) (m : ℕ) (keys : List (ℕ × ℕ)) → AreNamed s m keys → (c d : ℕ) → c < 2 * m → d < 2 * m → key_of keys c ≡ key_of keys d → c ≡ d
named_one s m keys N c d lc ld q =
    let x = N.each c lc in
    let y = N.each d ld in
    sym x.2 ∙ ap (λ (r : End). r.dart) (same_Some x.0 y.0 (sym x.1 ∙ ap (get s) q ∙ y.1)) ∙ y.2

-- ---- the same records
module _ (s s' : Slab End) (keys : List (ℕ × ℕ)) (first : List (Option ℕ)) (same : (k : ℕ) → get s' k ≡ get s k) (A : AreLinks s keys first) where
  linked_too : IsLinked s' (2 * length keys) (key_of keys) (λ d. key_of keys (twin d)) (cw_at s keys) (ccw_at s keys)
  linked_too = record {
    each = λ d l. same (key_of keys d) ∙ A.linked.each d l;
    cw_in = A.linked.cw_in;
    ccw_in = A.linked.ccw_in;
  }

  pub links_too : slab_len s' ≡ slab_len s → AreLinks s' keys first
  links_too count = record {
    few = A.few;
    linked = linked_by s' keys (λ d. key_of keys (twin d)) (cw_at s keys) (ccw_at s keys) linked_too;
    firsts = A.firsts;
    count = count ∙ A.count;
  }

  pub cw_too : map (cw_at s' keys) (range_with_len 0 (2 * length keys)) ≡ map (cw_at s keys) (range_with_len 0 (2 * length keys))
  cw_too = map_range_same (2 * length keys) (cw_at s' keys) (cw_at s keys)
      (cw_is s' (2 * length keys) (key_of keys) (λ d. key_of keys (twin d)) (cw_at s keys) (ccw_at s keys) linked_too)

  pub ccw_too : map (ccw_at s' keys) (range_with_len 0 (2 * length keys)) ≡ map (ccw_at s keys) (range_with_len 0 (2 * length keys))
  ccw_too = map_range_same (2 * length keys) (ccw_at s' keys) (ccw_at s keys)
      (ccw_is s' (2 * length keys) (key_of keys) (λ d. key_of keys (twin d)) (cw_at s keys) (ccw_at s keys) linked_too)

  pub first_too : map (first_at s') first ≡ map (first_at s) first
  first_too = map_same first None (first_at s') (first_at s) (λ v l. one (get_or first v None))
    where
      one : (o : Option ℕ) → first_at s' o ≡ first_at s o
      one None = refl
      one (Some k) = ap (λ (o : Option End). (unwrap_or o no_end).dart) (same k)

-- ---- a table by its entries
pub table_again : (n : ℕ) (xs : List ℕ) → length xs ≡ n → (f : ℕ → ℕ) → ((d : ℕ) → d < n → f d ≡ get_or xs d 0) → map f (range_with_len 0 n) ≡ xs
table_again n xs q f h = sym (fill_by_all f xs n 0 q (λ k l. sym (h k l)))

-- ---- a copy of the records
pub cloned : (is : End → End → Type 0) → ((a b : End) → is a b → b ≡ a) → (xs ys : List (Option End)) → AllZip (IsSlotClone is) xs ys → ys ≡ xs
cloned is sound [] [] h = refl
cloned is sound [] (y ∷ ys) h = absurd h
cloned is sound (x ∷ xs) [] h = absurd h
cloned is sound (x ∷ xs) (y ∷ ys) h = ap (λ z. z ∷ ys) (one x y h.0) ∙ ap (λ (zs : List (Option End)). x ∷ zs) (cloned is sound xs ys h.1)
  where
    one : (x y : Option End) → IsSlotClone is x y → y ≡ x
    one None y q = q
    one (Some r) None q = absurd q
    one (Some r) (Some r') q = ap (λ z. Some z) (sound r r' q)

-- links with more room
pub roomier : (s s' : Slab End) (keys keys' : List (ℕ × ℕ)) (first first' : List (Option ℕ)) → s' ≡ record { slots = s.slots; vacant_key = s.vacant_key; capacity = s'.capacity }
    → keys' ≡ keys → first' ≡ first → AreLinks s keys first → AreLinks s' keys' first'
roomier s s' keys keys' first first' q k f A =
    subst (λ (z : List (ℕ × ℕ)). AreLinks s' z first') (sym k) (subst (λ (z : List (Option ℕ)). AreLinks s' keys z) (sym f)
    (links_too s s' keys first (λ j. ap (λ (z : Slab End). get z j) q) A (ap (λ (z : Slab End). slab_len z) q)))
