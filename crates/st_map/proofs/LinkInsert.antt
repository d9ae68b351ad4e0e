-- Links with an edge put in.
use Rattle.std.proofs.Common.{◌≡◌, ◌≢◌, ℕ, suc, ◌+◌, ◌*◌, ◌<◌, ◌^◌, eqb, List, [], ◌∷◌, ◌++◌, map, length, get_or, Option, Some, None, IsSome, inl, inr, cond, refl, sym, ap, ◌∙◌, subst, arith}
use Rattle.std.proofs.lemmas.Bool.{cases_eq, cond-true, cond-false, eq-eqb, ne_eqb}
use Rattle.std.proofs.lemmas.List.{length_push}
use Rattle.std.proofs.lemmas.Option.{same_Some, none-some}
use Rattle.slab.specs.Slab.{Slab, get, Updates, slab_len}
use Rattle.st_ids.specs.Ends.{twin}
use Rattle.st_map.specs.declared.links.End.{End}
use Rattle.st_map.specs.Links.{AreLinks, InsertsEnds, IsLinked, LinkTables, NamesEnds, PutsEnd, ccw_at, cw_at, end_in, first_at, key_of, links_of, no_end}
use Rattle.st_map.specs.Tables.{put_entry}
use Rattle.st_map.proofs.EndLemmas.{twin-tail, twin-head}
use Rattle.st_map.proofs.InsertTables.{put_long, put_at, put_kept, put_place}
use Rattle.st_map.proofs.LinkLemmas.{record_of, cw_is, ccw_is, dart_is, key_one, linked_by, length-cw, length-ccw, cw_read, ccw_read, read_end}
use Rattle.st_map.proofs.LinkLoops.{key_tail, key_head, key_push, last_pair, map_same, some_apart, table_again, twin_below}
use Rattle.st_map.proofs.LinkSplit.{same_end}

-- what an end goes to where n is put between x and y
unfoldable pub put : ℕ → ℕ → ℕ → (ℕ → ℕ) → ℕ → ℕ
put x n y h d = cond (eqb d n) y (cond (eqb d x) n (h d))

pub put_n : (x n y : ℕ) (h : ℕ → ℕ) → put x n y h n ≡ y
unfolding put
put_n x n y h = cond-true (eqb n n) y (cond (eqb n x) n (h n)) (eq-eqb n n refl)

pub put_x : (x n y : ℕ) (h : ℕ → ℕ) → x ≢ n → put x n y h x ≡ n
unfolding put
put_x x n y h k = cond-false (eqb x n) y (cond (eqb x x) n (h x)) (ne_eqb x n k) ∙ cond-true (eqb x x) n (h x) (eq-eqb x x refl)

pub put_d : (x n y : ℕ) (h : ℕ → ℕ) (d : ℕ) → d ≢ n → d ≢ x → put x n y h d ≡ h d
unfolding put
put_d x n y h d k j = cond-false (eqb d n) y (cond (eqb d x) n (h d)) (ne_eqb d n k) ∙ cond-false (eqb d x) n (h d) (ne_eqb d x j)

put_in : (x n y : ℕ) (h : ℕ → ℕ) → y < suc n → ((d : ℕ) → d < n → h d < n) → (d : ℕ) → d < suc n → put x n y h d < suc n
put_in x n y h ly hl d l = elim (cases_eq d n) [
  | inl e ↦ subst (λ z. z < suc n) (sym (ap (put x n y h) e ∙ put_n x n y h)) ly
  | inr k ↦ elim (cases_eq d x) [
    | inl e ↦ (let z : put x n y h d ≡ n = ap (put x n y h) e ∙ put_x x n y h (λ w. k (e ∙ w)) in omega arith)
    | inr j ↦ (let z : put x n y h d ≡ h d = put_d x n y h d k j in let w : h d < n = hl d (omega arith) in omega arith)
  ]
]

-- the table of it
pub put_table : (l : List ℕ) (n : ℕ) (h : ℕ → ℕ) (x y : ℕ) → length l ≡ n → x < n → ((d : ℕ) → d < n → get_or l d 0 ≡ h d) → get_or l x 0 ≡ y
    → (d : ℕ) → d < suc n → get_or (put_entry l x) d 0 ≡ put x n y h d
put_table l n h x y size lx each q d k = elim (cases_eq d n) [
  | inl e ↦ ap (λ z. get_or (put_entry l x) z 0) (e ∙ sym size) ∙ put_place l x (omega arith) ∙ q ∙ sym (ap (put x n y h) e ∙ put_n x n y h)
  | inr j ↦ elim (cases_eq d x) [
    | inl e ↦ ap (λ z. get_or (put_entry l x) z 0) e ∙ put_at l x (omega arith) ∙ size ∙ sym (ap (put x n y h) e ∙ put_x x n y h (λ w. omega arith))
    | inr i ↦ put_kept l x (omega arith) d (omega arith) i ∙ each d (omega arith) ∙ sym (put_d x n y h d j i)
  ]
]

-- one end more
module _ (s s' : Slab End) (n : ℕ) (key other f g : ℕ → ℕ) (L : IsLinked s n key other f g) (p : ℕ) (lp : p < n) (N : (r : End) × (get s (key n) ≡ Some r) × (r.dart ≡ n) × (r.twin ≡ other n))
    (P : PutsEnd s s' (key p) (key (f p)) (key n)) where
  not_new : (d : ℕ) → d < n → key d ≢ key n
  not_new d l q =
      let z : d ≡ n = ap (λ (r : End). r.dart) (same_Some (record_of key other f g d) N.0 (sym (L.each d l) ∙ ap (get s) q ∙ N.1)) ∙ N.2 in
      omega arith

  one : (c d : ℕ) → c < n → d < n → key c ≡ key d → c ≡ d
  one = key_one s n key other f g L

  pub put_linked : IsLinked s' (suc n) key other (put p n (f p) f) (put (f p) n p g)
  put_linked = record {
    each = λ d l. elim (cases_eq d n) [
      | inl e ↦
          let r : end_in s (key n) ≡ N.0 = sym (read_end s (key n) N.0 N.1) in
          ap (λ z. get s' (key z)) e ∙ P.at_new
          ∙ same_end (ap (λ (z : End). z.dart) r ∙ N.2 ∙ sym e) (ap (λ (z : End). z.twin) r ∙ N.3 ∙ ap other (sym e))
          (sym (ap key (ap (put p n (f p) f) e ∙ put_n p n (f p) f))) (sym (ap key (ap (put (f p) n p g) e ∙ put_n (f p) n p g)))
      | inr j ↦
          let k : d < n = omega arith in
          P.others (key d) (record_of key other f g d) (not_new d k) (L.each d k)
          ∙ same_end refl refl
          (elim (cases_eq d p) [
            | inl e ↦ cond-true (eqb (key d) (key p)) (key n) (key (f d)) (eq-eqb (key d) (key p) (ap key e)) ∙ sym (ap key (ap (put p n (f p) f) e ∙ put_x p n (f p) f (λ w. omega arith)))
            | inr i ↦ cond-false (eqb (key d) (key p)) (key n) (key (f d)) (ne_eqb (key d) (key p) (λ w. i (one d p k lp w))) ∙ sym (ap key (put_d p n (f p) f d j i))
          ])
          (elim (cases_eq d (f p)) [
            | inl e ↦ cond-true (eqb (key d) (key (f p))) (key n) (key (g d)) (eq-eqb (key d) (key (f p)) (ap key e)) ∙ sym (ap key (ap (put (f p) n p g) e ∙ put_x (f p) n p g (λ w. j (e ∙ w))))
            | inr i ↦ cond-false (eqb (key d) (key (f p))) (key n) (key (g d)) (ne_eqb (key d) (key (f p)) (λ w. i (one d (f p) k (L.cw_in p lp) w))) ∙ sym (ap key (put_d (f p) n p g d j i))
          ])
    ];
    cw_in = put_in p n (f p) f (let z : f p < n = L.cw_in p lp in omega arith) L.cw_in;
    ccw_in = put_in (f p) n p g (omega arith) L.ccw_in;
  }

-- ---- the three writes
pub puts_end : (s s1 s2 s3 : Slab End) (p x new : ℕ) (a b c : End) → p ≢ new → x ≢ new → get s new ≡ Some a → Updates s s1 new (Some (record { dart = a.dart; twin = a.twin; cw = x; ccw = p }))
    → get s1 p ≡ Some b → Updates s1 s2 p (Some (record { dart = b.dart; twin = b.twin; cw = new; ccw = b.ccw }))
    → get s2 x ≡ Some c → Updates s2 s3 x (Some (record { dart = c.dart; twin = c.twin; cw = c.cw; ccw = new }))
    → slab_len s3 ≡ slab_len s → PutsEnd s s3 p x new
puts_end s s1 s2 s3 p x new a b c np nx qa u1 qb u2 qc u3 len = record {
  at_new = u3.others new (λ w. nx (sym w)) ∙ u2.others new (λ w. np (sym w)) ∙ u1.changed
      ∙ ap (λ (z : End). Some (let r : End = record { dart = z.dart; twin = z.twin; cw = x; ccw = p } in r)) (read_end s new a qa);
  others = λ k r n q.
      let one : get s1 k ≡ Some r = u1.others k n ∙ q in
      elim (cases_eq k p) [
        | inl e ↦
            let same : b ≡ r = same_Some b r (sym qb ∙ ap (get s1) (sym e) ∙ one) in
            let two : get s2 k ≡ Some (let z : End = record { dart = r.dart; twin = r.twin; cw = new; ccw = r.ccw } in z) =
            ap (get s2) e ∙ u2.changed ∙ ap (λ (w : End). Some (let z : End = record { dart = w.dart; twin = w.twin; cw = new; ccw = w.ccw } in z)) same in
            last k r new two (cond-true (eqb k p) new r.cw (eq-eqb k p e))
        | inr m ↦ last k r r.cw (u2.others k m ∙ one) (cond-false (eqb k p) new r.cw (ne_eqb k p m))
      ];
  count = len;
}
  where
    last : (k : ℕ) (r : End) (to : ℕ) → get s2 k ≡ Some (let z : End = record { dart = r.dart; twin = r.twin; cw = to; ccw = r.ccw } in z) → cond (eqb k p) new r.cw ≡ to
        → get s3 k ≡ Some (let z : End = record { dart = r.dart; twin = r.twin; cw = cond (eqb k p) new r.cw; ccw = cond (eqb k x) new r.ccw } in z)
    last k r to q w = elim (cases_eq k x) [
      | inl e ↦
          let same : c ≡ record { dart = r.dart; twin = r.twin; cw = to; ccw = r.ccw } = same_Some c (record { dart = r.dart; twin = r.twin; cw = to; ccw = r.ccw }) (sym qc ∙ ap (get s2) (sym e) ∙ q) in
          ap (get s3) e ∙ u3.changed ∙ ap (λ (v : End). Some (let z : End = record { dart = v.dart; twin = v.twin; cw = v.cw; ccw = new } in z)) same
          ∙ same_end refl refl (sym w) (sym (cond-true (eqb k x) new r.ccw (eq-eqb k x e)))
      | inr m ↦ u3.others k m ∙ q ∙ same_end refl refl (sym w) (sym (cond-false (eqb k x) new r.ccw (ne_eqb k x m)))
    ]

-- ---- keys that are there
some_is : (o : Option End) → IsSome o → (r : End) × (o ≡ Some r)
some_is None h = none_there h
  where
    none_there : IsSome {T = End} None → (r : End) × (None ≡ Some r)
    none_there h = absurd (none-some no_end (cc))
some_is (Some r) h = (r, refl)

pub key_kept : (s s0 : Slab End) (m t h k : ℕ) → NamesEnds s s0 m t h → IsSome (get s k) → (k ≢ t) × (k ≢ h) × IsSome (get s0 k)
key_kept s s0 m t h k N i =
    let r = some_is (get s k) i in
    let a : k ≢ t = some_apart s k t r.0 r.1 N.tail_new in
    let b : k ≢ h = some_apart s k h r.0 r.1 N.head_new in
    (a, b, subst IsSome (sym (N.others k a b)) i)

pub key_put : (s s' : Slab End) (p x new k : ℕ) → PutsEnd s s' p x new → k ≢ new → IsSome (get s k) → IsSome (get s' k)
key_put s s' p x new k P n i = (let r = some_is (get s k) i in subst IsSome (sym (P.others k r.0 n r.1)) refl)

module _ (s s' : Slab End) (keys : List (ℕ × ℕ)) (first : List (Option ℕ)) (p q tail head : ℕ) (A : AreLinks s keys first) (lp : p < 2 * length keys) (lq : q < 2 * length keys) (apart : p ≢ q)
    (V : InsertsEnds s s' (length keys) (key_of keys p) (key_of keys (cw_at s keys p)) (key_of keys q) (key_of keys (cw_at s keys q)) tail head) where
  abbrev pub keys_after : List (ℕ × ℕ)
  keys_after = keys ++ (tail, head) ∷ []

  n : ℕ
  n = 2 * length keys

  L : IsLinked s (2 * length keys) (key_of keys) (λ d. key_of keys (twin d)) (cw_at s keys) (ccw_at s keys)
  L = A.linked

  old : (d : ℕ) → d < 2 * length keys → key_of keys_after d ≡ key_of keys d
  old d l = key_push keys (tail, head) d l

  key_t : key_of keys_after (2 * length keys) ≡ tail
  key_t = key_tail keys_after (length keys) ∙ ap (λ (z : ℕ × ℕ). z.0) (last_pair keys (tail, head) (length keys) refl)

  key_h' : key_of keys_after (2 * length keys + 1) ≡ head
  key_h' = key_head keys_after (length keys) ∙ ap (λ (z : ℕ × ℕ). z.1) (last_pair keys (tail, head) (length keys) refl)

  top : suc (2 * length keys) ≡ 2 * length keys + 1
  top = omega arith

  key_h : key_of keys_after (suc (2 * length keys)) ≡ head
  key_h = ap (key_of keys_after) top ∙ key_h'

  L0 : IsLinked V.named (2 * length keys) (key_of keys_after) (λ d. key_of keys_after (twin d)) (cw_at s keys) (ccw_at s keys)
  L0 = record {
    each = λ d l.
        let r : End = record_of (key_of keys) (λ d. key_of keys (twin d)) (cw_at s keys) (ccw_at s keys) d in
        ap (get V.named) (old d l)
        ∙ V.names.others (key_of keys d) (some_apart s (key_of keys d) tail (record_of (key_of keys) (λ d. key_of keys (twin d)) (cw_at s keys) (ccw_at s keys) d) (L.each d l) V.names.tail_new)
        (some_apart s (key_of keys d) head (record_of (key_of keys) (λ d. key_of keys (twin d)) (cw_at s keys) (ccw_at s keys) d) (L.each d l) V.names.head_new)
        ∙ L.each d l ∙ same_end refl (sym (old (twin d) (twin_below d (length keys) l))) (sym (old (cw_at s keys d) (L.cw_in d l))) (sym (old (ccw_at s keys d) (L.ccw_in d l)));
    cw_in = L.cw_in;
    ccw_in = L.ccw_in;
  }

  P0 : PutsEnd V.named V.between (key_of keys_after p) (key_of keys_after (cw_at s keys p)) (key_of keys_after (2 * length keys))
  P0 = subst (λ z. PutsEnd V.named V.between (key_of keys_after p) (key_of keys_after (cw_at s keys p)) z) (sym key_t)
      (subst (λ z. PutsEnd V.named V.between (key_of keys_after p) z tail) (sym (old (cw_at s keys p) (L.cw_in p lp)))
      (subst (λ z. PutsEnd V.named V.between z (key_of keys (cw_at s keys p)) tail) (sym (old p lp)) V.puts_tail))

  N0 : (r : End) × (get V.named (key_of keys_after (2 * length keys)) ≡ Some r) × (r.dart ≡ 2 * length keys) × (r.twin ≡ key_of keys_after (twin (2 * length keys)))
  N0 = (let r = V.names.at_tail in (r.0, ap (get V.named) key_t ∙ r.1, r.2, r.3 ∙ sym (ap (key_of keys_after) (twin-tail (length keys)) ∙ key_h')))

  f1 : ℕ → ℕ
  f1 = put p (2 * length keys) (cw_at s keys p) (cw_at s keys)

  g1 : ℕ → ℕ
  g1 = put (cw_at s keys p) (2 * length keys) p (ccw_at s keys)

  L1 : IsLinked V.between (suc (2 * length keys)) (key_of keys_after) (λ d. key_of keys_after (twin d)) (put p (2 * length keys) (cw_at s keys p) (cw_at s keys)) (put (cw_at s keys p) (2 * length keys) p (ccw_at s keys))
  L1 = put_linked V.named V.between (2 * length keys) (key_of keys_after) (λ d. key_of keys_after (twin d)) (cw_at s keys) (ccw_at s keys) L0 p lp N0 P0

  f1_q : put p (2 * length keys) (cw_at s keys p) (cw_at s keys) q ≡ cw_at s keys q
  f1_q = put_d p (2 * length keys) (cw_at s keys p) (cw_at s keys) q (λ e. omega arith) (λ e. apart (sym e))

  P1 : PutsEnd V.between s' (key_of keys_after q) (key_of keys_after (put p (2 * length keys) (cw_at s keys p) (cw_at s keys) q)) (key_of keys_after (suc (2 * length keys)))
  P1 = subst (λ z. PutsEnd V.between s' (key_of keys_after q) (key_of keys_after (put p (2 * length keys) (cw_at s keys p) (cw_at s keys) q)) z) (sym key_h)
      (subst (λ z. PutsEnd V.between s' (key_of keys_after q) z head) (sym (ap (key_of keys_after) f1_q ∙ old (cw_at s keys q) (L.cw_in q lq)))
      (subst (λ z. PutsEnd V.between s' z (key_of keys (cw_at s keys q)) head) (sym (old q lq)) V.puts_head))

  N1 : (r : End) × (get V.between (key_of keys_after (suc (2 * length keys))) ≡ Some r) × (r.dart ≡ suc (2 * length keys)) × (r.twin ≡ key_of keys_after (twin (suc (2 * length keys))))
  N1 =
      let r = V.names.at_head in (
        record { dart = r.0.dart; twin = r.0.twin; cw = cond (eqb head (key_of keys p)) tail r.0.cw; ccw = cond (eqb head (key_of keys (cw_at s keys p))) tail r.0.ccw },
        ap (get V.between) key_h ∙ V.puts_tail.others head r.0 (λ e. V.names.apart (sym e)) r.1,
        r.2 ∙ sym top,
        r.3 ∙ sym (ap (λ z. key_of keys_after (twin z)) top ∙ ap (key_of keys_after) (twin-head (length keys)) ∙ key_t),
      )

  f2 : ℕ → ℕ
  f2 = put q (suc (2 * length keys)) (f1 q) f1

  L2 : IsLinked s' (suc (suc (2 * length keys))) (key_of keys_after) (λ d. key_of keys_after (twin d)) (put q (suc (2 * length keys)) (put p (2 * length keys) (cw_at s keys p) (cw_at s keys) q) (put p (2 * length keys) (cw_at s keys p) (cw_at s keys)))
      (put (put p (2 * length keys) (cw_at s keys p) (cw_at s keys) q) (suc (2 * length keys)) q (put (cw_at s keys p) (2 * length keys) p (ccw_at s keys)))
  L2 = put_linked V.between s' (suc (2 * length keys)) (key_of keys_after) (λ d. key_of keys_after (twin d)) (put p (2 * length keys) (cw_at s keys p) (cw_at s keys)) (put (cw_at s keys p) (2 * length keys) p (ccw_at s keys)) L1 q (omega arith) N1 P1

  pub length-keys_after : length keys_after ≡ suc (length keys)
  length-keys_after = length_push keys (tail, head) ∙ (let z : length keys + 1 ≡ suc (length keys) = omega arith in z)

  many : suc (suc (2 * length keys)) ≡ 2 * length keys_after
  many = omega (arith, length-keys_after)

  fs : ℕ → ℕ
  fs = put q (suc (2 * length keys)) (put p (2 * length keys) (cw_at s keys p) (cw_at s keys) q) (put p (2 * length keys) (cw_at s keys p) (cw_at s keys))

  gs : ℕ → ℕ
  gs = put (put p (2 * length keys) (cw_at s keys p) (cw_at s keys) q) (suc (2 * length keys)) q (put (cw_at s keys p) (2 * length keys) p (ccw_at s keys))

  L3 : IsLinked s' (2 * length keys_after) (key_of keys_after) (λ d. key_of keys_after (twin d)) fs gs
  unfolding fs gs
  L3 = subst (λ z. IsLinked s' z (key_of keys_after) (λ d. key_of keys_after (twin d)) fs gs) many L2

  pub links_after : suc (length keys) < 2 ^ 30 → AreLinks s' keys_after first
  links_after few = record {
    few = subst (λ z. z < 2 ^ 30) (sym length-keys_after) few;
    linked = linked_by s' keys_after (λ d. key_of keys_after (twin d)) fs gs L3;
    firsts = λ v k w. (let r = A.firsts v k w in (r.0, omega (arith, r.1, length-keys_after), r.2 ∙ sym (old r.0 r.1)));
    count = V.puts_head.count ∙ V.puts_tail.count ∙ V.names.count ∙ ap (λ z. z + 2) A.count ∙ (let z : 2 * length keys + 2 ≡ 2 * length keys_after = omega (arith, length-keys_after) in z);
  }

  module _ (a b a' b' : ℕ) where
    W : LinkTables
    W = links_of s keys first a b

    vc : length (links_of s keys first a b).cw ≡ 2 * length keys
    vc = length-cw s keys first a b

    vcc : length (links_of s keys first a b).ccw ≡ 2 * length keys
    vcc = length-ccw s keys first a b

    pub cw_after : (links_of s' keys_after first a' b').cw ≡ put_entry (put_entry (links_of s keys first a b).cw p) q
    unfolding fs
    cw_after =
        let l : List ℕ = (links_of s keys first a b).cw in
        let one : (d : ℕ) → d < suc (2 * length keys) → get_or (put_entry (links_of s keys first a b).cw p) d 0 ≡ put p (2 * length keys) (cw_at s keys p) (cw_at s keys) d =
        put_table (links_of s keys first a b).cw (2 * length keys) (cw_at s keys) p (cw_at s keys p) vc lp (cw_read s keys first a b) (cw_read s keys first a b p lp) in
        let long : length (put_entry (links_of s keys first a b).cw p) ≡ suc (2 * length keys) = put_long (links_of s keys first a b).cw p (omega (arith, vc)) ∙ ap suc vc in
        table_again (2 * length keys_after) (put_entry (put_entry (links_of s keys first a b).cw p) q)
        (put_long (put_entry (links_of s keys first a b).cw p) q (omega (arith, long)) ∙ ap suc long ∙ many) (cw_at s' keys_after)
        (λ d k. cw_is s' (2 * length keys_after) (key_of keys_after) (λ d. key_of keys_after (twin d)) fs gs L3 d k
        ∙ sym (put_table (put_entry (links_of s keys first a b).cw p) (suc (2 * length keys)) (put p (2 * length keys) (cw_at s keys p) (cw_at s keys)) q (put p (2 * length keys) (cw_at s keys p) (cw_at s keys) q) long (omega arith) one (one q (omega arith)) d (omega (arith, many))))

    pub ccw_after : get_or (links_of s keys first a b).ccw (get_or (links_of s keys first a b).cw p 0) 0 ≡ p → get_or (links_of s keys first a b).ccw (get_or (links_of s keys first a b).cw q 0) 0 ≡ q
        → (links_of s' keys_after first a' b').ccw ≡ put_entry (put_entry (links_of s keys first a b).ccw (get_or (links_of s keys first a b).cw p 0)) (get_or (links_of s keys first a b).cw q 0)
    unfolding gs
    ccw_after back_p back_q =
        let fp : get_or (links_of s keys first a b).cw p 0 ≡ cw_at s keys p = cw_read s keys first a b p lp in
        let fq : get_or (links_of s keys first a b).cw q 0 ≡ cw_at s keys q = cw_read s keys first a b q lq in
        let bp : get_or (links_of s keys first a b).ccw (cw_at s keys p) 0 ≡ p = ap (λ z. get_or (links_of s keys first a b).ccw z 0) (sym fp) ∙ back_p in
        let bq : get_or (links_of s keys first a b).ccw (cw_at s keys q) 0 ≡ q = ap (λ z. get_or (links_of s keys first a b).ccw z 0) (sym fq) ∙ back_q in
        let ip : cw_at s keys p < 2 * length keys = L.cw_in p lp in
        let iq : cw_at s keys q < 2 * length keys = L.cw_in q lq in
        let differ : cw_at s keys q ≢ cw_at s keys p = λ e. apart (sym bp ∙ ap (λ z. get_or (links_of s keys first a b).ccw z 0) (sym e) ∙ bq) in
        let one : (d : ℕ) → d < suc (2 * length keys) → get_or (put_entry (links_of s keys first a b).ccw (cw_at s keys p)) d 0 ≡ put (cw_at s keys p) (2 * length keys) p (ccw_at s keys) d =
        put_table (links_of s keys first a b).ccw (2 * length keys) (ccw_at s keys) (cw_at s keys p) p vcc ip (ccw_read s keys first a b) bp in
        let long : length (put_entry (links_of s keys first a b).ccw (cw_at s keys p)) ≡ suc (2 * length keys) = put_long (links_of s keys first a b).ccw (cw_at s keys p) (omega (arith, vcc, ip)) ∙ ap suc vcc in
        let q_is : get_or (put_entry (links_of s keys first a b).ccw (cw_at s keys p)) (cw_at s keys q) 0 ≡ q =
        put_kept (links_of s keys first a b).ccw (cw_at s keys p) (omega (arith, vcc, ip)) (cw_at s keys q) (omega (arith, vcc, iq)) differ ∙ bq in
        table_again (2 * length keys_after) (put_entry (put_entry (links_of s keys first a b).ccw (cw_at s keys p)) (cw_at s keys q))
        (put_long (put_entry (links_of s keys first a b).ccw (cw_at s keys p)) (cw_at s keys q) (omega (arith, long, iq)) ∙ ap suc long ∙ many) (ccw_at s' keys_after)
        (λ d k. ccw_is s' (2 * length keys_after) (key_of keys_after) (λ d. key_of keys_after (twin d)) fs gs L3 d k
        ∙ ap (λ z. put z (suc (2 * length keys)) q (put (cw_at s keys p) (2 * length keys) p (ccw_at s keys)) d) f1_q
        ∙ sym (put_table (put_entry (links_of s keys first a b).ccw (cw_at s keys p)) (suc (2 * length keys)) (put (cw_at s keys p) (2 * length keys) p (ccw_at s keys)) (cw_at s keys q) q long (omega (arith, iq)) one q_is d (omega (arith, many))))
        ∙ ap (λ z. put_entry (put_entry (links_of s keys first a b).ccw z) (cw_at s keys q)) (sym fp)
        ∙ ap (λ z. put_entry (put_entry (links_of s keys first a b).ccw (get_or (links_of s keys first a b).cw p 0)) z) (sym fq)

  pub first_same : map (first_at s') first ≡ map (first_at s) first
  first_same = map_same first None (first_at s') (first_at s) (λ v l. by_key v (get_or first v None) refl)
    where
      by_key : (v : ℕ) (o : Option ℕ) → get_or first v None ≡ o → first_at s' o ≡ first_at s o
      by_key v None w = refl
      by_key v (Some k) w =
          let r = A.firsts v k w in
          ap (λ j. (end_in s' j).dart) (r.2 ∙ sym (old r.0 r.1)) ∙ dart_is s' (2 * length keys_after) (key_of keys_after) (λ d. key_of keys_after (twin d)) fs gs L3 r.0 (omega (arith, r.1, length-keys_after))
          ∙ sym (ap (λ j. (end_in s j).dart) r.2 ∙ dart_is s (2 * length keys) (key_of keys) (λ d. key_of keys (twin d)) (cw_at s keys) (ccw_at s keys) L r.0 r.1)
