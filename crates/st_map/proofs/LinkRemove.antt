-- Links with an edge taken out.
use Rattle.std.proofs.Common.{◌≡◌, ◌≢◌, ℕ, suc, ◌+◌, ◌-◌, ◌*◌, ◌<◌, ◌⊎◌, eqb, List, map, set, length, get_or, Option, Some, None, IsSome, unwrap_or, inl, inr, cond, refl, sym, ap, ◌∙◌, subst, arith}
use Rattle.std.proofs.lemmas.Bool.{cases_eq, cases_lt, cond-true, cond-false, eq-eqb, ne_eqb}
use Rattle.std.proofs.lemmas.List.{length-map, length-set, get_or-map, get_or-set_same, get_or-set_other, get_or_past}
use Rattle.std.proofs.lemmas.List.FromFn.{fill_by_all}
use Rattle.std.proofs.lemmas.Option.{same_Some, none-some}
use Rattle.slab.specs.Slab.{Slab, get, Updates, slab_len}
use Rattle.st_ids.specs.Ends.{twin, edge_of}
use Rattle.st_map.specs.declared.links.End.{End}
use Rattle.st_map.specs.Links.{AreLinks, IsLinked, LinkTables, RenumbersEnd, TakesEnd, ccw_at, cw_at, end_in, first_at, key_of, links_of, next_first, no_end}
use Rattle.st_map.specs.Remove.{exchanged}
use Rattle.st_map.specs.Tables.{AreLinksRemoved, IsBack, first_left, no_first, passed_in}
use Rattle.st_map.proofs.EndLemmas.{even_or_odd, edge_of-tail, edge_of-head, twin-below}
use Rattle.st_map.proofs.ExchangeLemmas.{X, ex, ex_e, ex_other, X_tail, X_head, X_twin, X_below, X_n, X_m}
use Rattle.st_map.proofs.LinkLemmas.{cw_is, ccw_is, key_one, linked_by, length-cw, length-ccw, cw_read, ccw_read, read_end}
use Rattle.st_map.proofs.LinkLoops.{key_tail, key_head}
use Rattle.st_map.proofs.LinkSplit.{same_end}
use Rattle.st_map.proofs.RemoveLemmas.{end_of}
use Rattle.st_map.proofs.RemoveTables.{first_no, first_yes, no_left, of_others, twice, within}

-- ---- a number that two functions pass
-- h, but y at x
unfoldable pub by : ℕ → ℕ → (ℕ → ℕ) → ℕ → ℕ
by x y h d = cond (eqb d x) y (h d)

by_yes : (x y : ℕ) (h : ℕ → ℕ) (d : ℕ) → d ≡ x → by x y h d ≡ y
unfolding by
by_yes x y h d q = cond-true (eqb d x) y (h d) (eq-eqb d x q)

by_no : (x y : ℕ) (h : ℕ → ℕ) (d : ℕ) → d ≢ x → by x y h d ≡ h d
unfolding by
by_no x y h d n = cond-false (eqb d x) y (h d) (ne_eqb d x n)

-- the next that is no end of e
abbrev pub past : ℕ → (ℕ → ℕ) → ℕ → ℕ
past e f d = cond (eqb (edge_of (f d)) e) (f (f d)) (f d)

past_yes : (e : ℕ) (f : ℕ → ℕ) (d : ℕ) → edge_of (f d) ≡ e → past e f d ≡ f (f d)
past_yes e f d q = cond-true (eqb (edge_of (f d)) e) (f (f d)) (f d) (eq-eqb (edge_of (f d)) e q)

past_no : (e : ℕ) (f : ℕ → ℕ) (d : ℕ) → edge_of (f d) ≢ e → past e f d ≡ f d
past_no e f d n = cond-false (eqb (edge_of (f d)) e) (f (f d)) (f d) (ne_eqb (edge_of (f d)) e n)

module _ (n e : ℕ) (f g : ℕ → ℕ) (f_in : (d : ℕ) → d < n → f d < n) (g_in : (d : ℕ) → d < n → g d < n) (back : (d : ℕ) → d < n → g (f d) ≡ d) (fore : (d : ℕ) → d < n → f (g d) ≡ d) (le : 2 * e + 1 < n)
    (apart : f (2 * e) ≢ 2 * e + 1) (apart' : f (2 * e + 1) ≢ 2 * e) where
  lp : 2 * e < n
  lp = omega arith

  tail_e : edge_of (2 * e) ≡ e
  tail_e = edge_of-tail e

  head_e : edge_of (2 * e + 1) ≡ e
  head_e = edge_of-head e

  g_apart : g (2 * e) ≢ 2 * e + 1
  g_apart q = apart' (ap f (sym q) ∙ fore (2 * e) lp)

  g_apart' : g (2 * e + 1) ≢ 2 * e
  g_apart' q = apart (ap f (sym q) ∙ fore (2 * e + 1) le)

  pub first_q : by (g (2 * e)) (f (2 * e)) f (2 * e + 1) ≡ f (2 * e + 1)
  first_q = by_no (g (2 * e)) (f (2 * e)) f (2 * e + 1) (λ w. g_apart (sym w))

  pub both_passed : (d : ℕ) → d < n → edge_of d ≢ e
      → by (by (f (2 * e)) (g (2 * e)) g (2 * e + 1)) (by (g (2 * e)) (f (2 * e)) f (2 * e + 1)) (by (g (2 * e)) (f (2 * e)) f) d ≡ past e f d
  both_passed d l k =
      let gq : by (f (2 * e)) (g (2 * e)) g (2 * e + 1) ≡ g (2 * e + 1) = by_no (f (2 * e)) (g (2 * e)) g (2 * e + 1) (λ w. apart (sym w)) in
      ap (λ x. by x (by (g (2 * e)) (f (2 * e)) f (2 * e + 1)) (by (g (2 * e)) (f (2 * e)) f) d) gq
      ∙ ap (λ y. by (g (2 * e + 1)) y (by (g (2 * e)) (f (2 * e)) f) d) first_q
      ∙ elim (cases_eq d (g (2 * e + 1))) [
        | inl w ↦
            let z : f d ≡ 2 * e + 1 = ap f w ∙ fore (2 * e + 1) le in
            by_yes (g (2 * e + 1)) (f (2 * e + 1)) (by (g (2 * e)) (f (2 * e)) f) d w ∙ ap f (sym z) ∙ sym (past_yes e f d (ap edge_of z ∙ head_e))
        | inr nq ↦ by_no (g (2 * e + 1)) (f (2 * e + 1)) (by (g (2 * e)) (f (2 * e)) f) d nq ∙ elim (cases_eq d (g (2 * e))) [
          | inl w ↦
              let z : f d ≡ 2 * e = ap f w ∙ fore (2 * e) lp in
              by_yes (g (2 * e)) (f (2 * e)) f d w ∙ ap f (sym z) ∙ sym (past_yes e f d (ap edge_of z ∙ tail_e))
          | inr np ↦
              let z : edge_of (f d) ≢ e = λ w. elim (end_of e (f d) w) [ inl x ↦ np (sym (back d l) ∙ ap g x) | inr x ↦ nq (sym (back d l) ∙ ap g x) ] in
              by_no (g (2 * e)) (f (2 * e)) f d np ∙ sym (past_no e f d z)
        ]
      ]

  -- what leads from an end of e to another edge
  leaves_e : (d : ℕ) → d < n → edge_of d ≢ e → edge_of (f d) ≡ e → edge_of (f (f d)) ≢ e
  leaves_e d l k w v = elim (end_of e (f d) w) [
    | inl x ↦ elim (end_of e (f (f d)) v) [
      | inl y ↦ k (ap edge_of (sym (back d l) ∙ ap g (x ∙ sym (sym (ap f x) ∙ y) ∙ sym (ap f x)) ∙ back (f d) (f_in d l)) ∙ w)
      | inr y ↦ apart (sym (ap f x) ∙ y)
    ]
    | inr x ↦ elim (end_of e (f (f d)) v) [
      | inl y ↦ apart' (sym (ap f x) ∙ y)
      | inr y ↦ k (ap edge_of (sym (back d l) ∙ ap g (x ∙ sym (sym (ap f x) ∙ y) ∙ sym (ap f x)) ∙ back (f d) (f_in d l)) ∙ w)
    ]
  ]

  pub past_in : (d : ℕ) → d < n → edge_of d ≢ e → (past e f d < n) × (edge_of (past e f d) ≢ e)
  past_in d l k = elim (cases_eq (edge_of (f d)) e) [
    | inl w ↦ (
      subst (λ z. z < n) (sym (past_yes e f d w)) (f_in (f d) (f_in d l)),
      λ v. leaves_e d l k w (sym (ap edge_of (past_yes e f d w)) ∙ v),
    )
    | inr w ↦ (subst (λ z. z < n) (sym (past_no e f d w)) (f_in d l), λ v. w (sym (ap edge_of (past_no e f d w)) ∙ v))
  ]

-- ---- records of some ends, which have numbers of their own
pub record NumberedOn (s : Slab End) (On : ℕ → Type 0) (num key other f g : ℕ → ℕ) : Type 0 where
  pub each : (d : ℕ) → On d → get s (key d) ≡ Some (record { dart = num d; twin = other d; cw = key (f d); ccw = key (g d) })

module _ (s : Slab End) (n : ℕ) (On : ℕ → Type 0) (num key other f g : ℕ → ℕ) (below : (d : ℕ) → On d → d < n) (one : (c d : ℕ) → c < n → d < n → key c ≡ key d → c ≡ d) (L : NumberedOn s On num key other f g) where
  own : ℕ → End
  own d = record { dart = num d; twin = other d; cw = key (f d); ccw = key (g d) }

  pub is_there : (d : ℕ) → On d → IsSome (get s (key d))
  is_there d o = subst IsSome (sym (L.each d o)) refl

  pub cw_of : (d : ℕ) → On d → (end_in s (key d)).cw ≡ key (f d)
  cw_of d o = ap (λ (x : Option End). (unwrap_or x no_end).cw) (L.each d o)

  pub ccw_of : (d : ℕ) → On d → (end_in s (key d)).ccw ≡ key (g d)
  ccw_of d o = ap (λ (x : Option End). (unwrap_or x no_end).ccw) (L.each d o)

  pub dart_of : (d : ℕ) → On d → (end_in s (key d)).dart ≡ num d
  dart_of d o = ap (λ (x : Option End). (unwrap_or x no_end).dart) (L.each d o)

  twin_of : (d : ℕ) → On d → (end_in s (key d)).twin ≡ other d
  twin_of d o = ap (λ (x : Option End). (unwrap_or x no_end).twin) (L.each d o)

  -- one has another number
  pub numbered : (s' : Slab End) (x v : ℕ) → On x → RenumbersEnd s s' (key x) v → NumberedOn s' On (by x v num) key other f g
  numbered s' x v ox R = record {
    each = λ d o. elim (cases_eq d x) [
      | inl q ↦
          ap (λ z. get s' (key z)) q ∙ R.at
          ∙ same_end (sym (by_yes x v num d q)) (twin_of x ox ∙ ap other (sym q)) (cw_of x ox ∙ ap (λ z. key (f z)) (sym q)) (ccw_of x ox ∙ ap (λ z. key (g z)) (sym q))
      | inr k ↦ R.others (key d) (λ w. k (one d x (below d o) (below x ox) w)) ∙ L.each d o ∙ same_end (sym (by_no x v num d k)) refl refl refl
    ];
  }

  -- one has left
  pub taken : (s' : Slab End) (p : ℕ) → On p → f p < n → g p < n → TakesEnd s s' (key p) → NumberedOn s' (λ d. On d × (d ≢ p)) num key other (by (g p) (f p) f) (by (f p) (g p) g)
  taken s' p op lf lg T = record {
    each = λ d o.
        let ld : d < n = below d o.0 in
        T.others (key d) (record { dart = num d; twin = other d; cw = key (f d); ccw = key (g d) }) (λ w. o.1 (one d p ld (below p op) w)) (L.each d o.0)
        ∙ same_end refl refl
        (ap (λ x. cond (eqb (key d) x) (end_in s (key p)).cw (key (f d))) (ccw_of p op) ∙ ap (λ x. cond (eqb (key d) (key (g p))) x (key (f d))) (cw_of p op)
        ∙ elim (cases_eq d (g p)) [
          | inl q ↦ cond-true (eqb (key d) (key (g p))) (key (f p)) (key (f d)) (eq-eqb (key d) (key (g p)) (ap key q)) ∙ ap key (sym (by_yes (g p) (f p) f d q))
          | inr k ↦ cond-false (eqb (key d) (key (g p))) (key (f p)) (key (f d)) (ne_eqb (key d) (key (g p)) (λ w. k (one d (g p) ld lg w))) ∙ ap key (sym (by_no (g p) (f p) f d k))
        ])
        (ap (λ x. cond (eqb (key d) x) (end_in s (key p)).ccw (key (g d))) (cw_of p op) ∙ ap (λ x. cond (eqb (key d) (key (f p))) x (key (g d))) (ccw_of p op)
        ∙ elim (cases_eq d (f p)) [
          | inl q ↦ cond-true (eqb (key d) (key (f p))) (key (g p)) (key (g d)) (eq-eqb (key d) (key (f p)) (ap key q)) ∙ ap key (sym (by_yes (f p) (g p) g d q))
          | inr k ↦ cond-false (eqb (key d) (key (f p))) (key (g p)) (key (g d)) (ne_eqb (key d) (key (f p)) (λ w. k (one d (f p) ld lf w))) ∙ ap key (sym (by_no (f p) (g p) g d k))
        ]);
  }

-- ---- the writes of a removed record
pub takes_end : (s s1 s2 s3 : Slab End) (p : ℕ) (r b c : End) → get s p ≡ Some r
    → get s r.ccw ≡ Some b → Updates s s1 r.ccw (Some (record { dart = b.dart; twin = b.twin; cw = r.cw; ccw = b.ccw }))
    → get s1 r.cw ≡ Some c → Updates s1 s2 r.cw (Some (record { dart = c.dart; twin = c.twin; cw = c.cw; ccw = r.ccw }))
    → Updates s2 s3 p None → suc (slab_len s3) ≡ slab_len s → TakesEnd s s3 p
takes_end s s1 s2 s3 p r b c qr qb u1 qc u2 u3 len = record {
  gone = u3.changed;
  others = λ k x n q. u3.others k n ∙ two k x q ∙ same_end refl refl
      (ap (λ (z : End). cond (eqb k z.ccw) z.cw x.cw) same) (ap (λ (z : End). cond (eqb k z.cw) z.ccw x.ccw) same);
  count = len;
}
  where
    same : r ≡ end_in s p
    same = read_end s p r qr

    one : (k : ℕ) (x : End) → get s k ≡ Some x → get s1 k ≡ Some (let z : End = record { dart = x.dart; twin = x.twin; cw = cond (eqb k r.ccw) r.cw x.cw; ccw = x.ccw } in z)
    one k x q = elim (cases_eq k r.ccw) [
      | inl w ↦
          let y : b ≡ x = same_Some b x (sym qb ∙ ap (get s) (sym w) ∙ q) in
          ap (get s1) w ∙ u1.changed ∙ same_end (ap (λ (z : End). z.dart) y) (ap (λ (z : End). z.twin) y) (sym (cond-true (eqb k r.ccw) r.cw x.cw (eq-eqb k r.ccw w))) (ap (λ (z : End). z.ccw) y)
      | inr n ↦ u1.others k n ∙ q ∙ same_end refl refl (sym (cond-false (eqb k r.ccw) r.cw x.cw (ne_eqb k r.ccw n))) refl
    ]

    two : (k : ℕ) (x : End) → get s k ≡ Some x → get s2 k ≡ Some (let z : End = record { dart = x.dart; twin = x.twin; cw = cond (eqb k r.ccw) r.cw x.cw; ccw = cond (eqb k r.cw) r.ccw x.ccw } in z)
    two k x q = elim (cases_eq k r.cw) [
      | inl w ↦
          let v : End = record { dart = x.dart; twin = x.twin; cw = cond (eqb k r.ccw) r.cw x.cw; ccw = x.ccw } in
          let y : c ≡ v = same_Some c v (sym qc ∙ ap (get s1) (sym w) ∙ one k x q) in
          ap (get s2) w ∙ u2.changed ∙ same_end (ap (λ (z : End). z.dart) y) (ap (λ (z : End). z.twin) y) (ap (λ (z : End). z.cw) y) (sym (cond-true (eqb k r.cw) r.ccw x.ccw (eq-eqb k r.cw w)))
      | inr n ↦ u2.others k n ∙ one k x q ∙ same_end refl refl refl (sym (cond-false (eqb k r.cw) r.ccw x.ccw (ne_eqb k r.cw n)))
    ]

-- ---- an edge taken out
swap_tail : (n e : ℕ) → exchanged n e (2 * n) ≡ 2 * e
unfolding X
swap_tail n e = X_n n e

swap_head : (n e : ℕ) → exchanged n e (suc (2 * n)) ≡ 2 * e + 1
unfolding X
swap_head n e = X_m n e

stays : (n e d : ℕ) → edge_of d ≢ e → d ≢ 2 * n → d ≢ 2 * n + 1 → exchanged n e d ≡ d
unfolding X
stays n e d k a b = elim (even_or_odd d) [
  | inl r ↦ ap (X n e) r.1 ∙ X_tail n e r.0
      ∙ ap (λ z. 2 * z) (ex_other n e r.0 (λ w. k (ap edge_of r.1 ∙ edge_of-tail r.0 ∙ w)) (λ w. a (r.1 ∙ ap (λ z. 2 * z) w))) ∙ sym r.1
  | inr r ↦ ap (X n e) r.1 ∙ X_head n e r.0
      ∙ ap (λ z. 2 * z + 1) (ex_other n e r.0 (λ w. k (ap edge_of r.1 ∙ edge_of-head r.0 ∙ w)) (λ w. b (r.1 ∙ ap (λ z. 2 * z + 1) w))) ∙ sym r.1
]

twin_swapped : (n e d : ℕ) → twin (exchanged n e d) ≡ exchanged n e (twin d)
unfolding X
twin_swapped n e d = X_twin n e d

swapped_below : (n e d : ℕ) → e < suc n → d < suc (suc (2 * n)) → edge_of d ≢ e → exchanged n e d < 2 * n
unfolding X
swapped_below n e d le l k = X_below n e le d l k

-- the numbers that the last edge's ends get
abbrev pub num : ℕ → ℕ → ℕ → ℕ
num n e = by (2 * n + 1) (2 * e + 1) (by (2 * n) (2 * e) (λ d. d))

num_is : (n e d : ℕ) → edge_of d ≢ e → num n e d ≡ exchanged n e d
num_is n e d k = elim (cases_eq d (2 * n + 1)) [
  | inl q ↦
      let z : 2 * n + 1 ≡ suc (2 * n) = omega arith in
      by_yes (2 * n + 1) (2 * e + 1) (by (2 * n) (2 * e) (λ d. d)) d q ∙ sym (ap (exchanged n e) (q ∙ z) ∙ swap_head n e)
  | inr a ↦ by_no (2 * n + 1) (2 * e + 1) (by (2 * n) (2 * e) (λ d. d)) d a ∙ elim (cases_eq d (2 * n)) [
    | inl q ↦ by_yes (2 * n) (2 * e) (λ d. d) d q ∙ sym (ap (exchanged n e) q ∙ swap_tail n e)
    | inr b ↦ by_no (2 * n) (2 * e) (λ d. d) d b ∙ sym (stays n e d k b a)
  ]
]

module _ (s : Slab End) (keys : List (ℕ × ℕ)) (first : List (Option ℕ)) (n e : ℕ) (A : AreLinks s keys first) (few : length keys ≡ suc n) (le : e < suc n)
    (back : (d : ℕ) → d < 2 * length keys → ccw_at s keys (cw_at s keys d) ≡ d) (fore : (d : ℕ) → d < 2 * length keys → cw_at s keys (ccw_at s keys d) ≡ d)
    (apart : cw_at s keys (2 * e) ≢ 2 * e + 1) (apart' : cw_at s keys (2 * e + 1) ≢ 2 * e) where
  L : IsLinked s (2 * length keys) (key_of keys) (λ d. key_of keys (twin d)) (cw_at s keys) (ccw_at s keys)
  L = A.linked

  pub tail_in : 2 * e < 2 * length keys
  tail_in = omega (arith, few)

  pub head_in : 2 * e + 1 < 2 * length keys
  head_in = omega (arith, few)

  one : (c d : ℕ) → c < 2 * length keys → d < 2 * length keys → key_of keys c ≡ key_of keys d → c ≡ d
  one = key_one s (2 * length keys) (key_of keys) (λ d. key_of keys (twin d)) (cw_at s keys) (ccw_at s keys) L

  apart_back : ccw_at s keys (2 * e) ≢ 2 * e + 1
  apart_back q = apart' (ap (cw_at s keys) (sym q) ∙ fore (2 * e) tail_in)

  apart_back' : ccw_at s keys (2 * e + 1) ≢ 2 * e
  apart_back' q = apart (ap (cw_at s keys) (sym q) ∙ fore (2 * e + 1) head_in)

  pub begun : NumberedOn s (λ d. d < 2 * length keys) (λ d. d) (key_of keys) (λ d. key_of keys (twin d)) (cw_at s keys) (ccw_at s keys)
  begun = record { each = L.each }

  pub there : (d : ℕ) → d < 2 * length keys → IsSome (get s (key_of keys d))
  there = is_there s (2 * length keys) (λ d. d < 2 * length keys) (λ d. d) (key_of keys) (λ d. key_of keys (twin d)) (cw_at s keys) (ccw_at s keys) (λ d o. o) one begun

  module _ (s1 : Slab End) (renumbers_tail : RenumbersEnd s s1 (key_of keys (2 * n)) (2 * e)) where
    pub tail_numbered : NumberedOn s1 (λ d. d < 2 * length keys) (by (2 * n) (2 * e) (λ d. d)) (key_of keys) (λ d. key_of keys (twin d)) (cw_at s keys) (ccw_at s keys)
    tail_numbered = numbered s (2 * length keys) (λ d. d < 2 * length keys) (λ d. d) (key_of keys) (λ d. key_of keys (twin d)) (cw_at s keys) (ccw_at s keys) (λ d o. o) one begun s1 (2 * n) (2 * e) (omega (arith, few)) renumbers_tail

    pub there1 : (d : ℕ) → d < 2 * length keys → IsSome (get s1 (key_of keys d))
    there1 = is_there s1 (2 * length keys) (λ d. d < 2 * length keys) (by (2 * n) (2 * e) (λ d. d)) (key_of keys) (λ d. key_of keys (twin d)) (cw_at s keys) (ccw_at s keys) (λ d o. o) one tail_numbered

    module _ (s2 : Slab End) (renumbers_head : RenumbersEnd s1 s2 (key_of keys (2 * n + 1)) (2 * e + 1)) where
      pub both_numbered : NumberedOn s2 (λ d. d < 2 * length keys) (num n e) (key_of keys) (λ d. key_of keys (twin d)) (cw_at s keys) (ccw_at s keys)
      both_numbered = numbered s1 (2 * length keys) (λ d. d < 2 * length keys) (by (2 * n) (2 * e) (λ d. d)) (key_of keys) (λ d. key_of keys (twin d)) (cw_at s keys) (ccw_at s keys) (λ d o. o) one tail_numbered s2 (2 * n + 1) (2 * e + 1) (omega (arith, few)) renumbers_head

      pub there2 : (d : ℕ) → d < 2 * length keys → IsSome (get s2 (key_of keys d))
      there2 = is_there s2 (2 * length keys) (λ d. d < 2 * length keys) (num n e) (key_of keys) (λ d. key_of keys (twin d)) (cw_at s keys) (ccw_at s keys) (λ d o. o) one both_numbered

      pub behind2 : IsSome (get s2 (end_in s2 (key_of keys (2 * e))).cw)
      behind2 = subst (λ z. IsSome (get s2 z))
          (sym (cw_of s2 (2 * length keys) (λ d. d < 2 * length keys) (num n e) (key_of keys) (λ d. key_of keys (twin d)) (cw_at s keys) (ccw_at s keys) (λ d o. o) one both_numbered (2 * e) tail_in))
          (there2 (cw_at s keys (2 * e)) (L.cw_in (2 * e) tail_in))

      pub before2 : IsSome (get s2 (end_in s2 (key_of keys (2 * e))).ccw)
      before2 = subst (λ z. IsSome (get s2 z))
          (sym (ccw_of s2 (2 * length keys) (λ d. d < 2 * length keys) (num n e) (key_of keys) (λ d. key_of keys (twin d)) (cw_at s keys) (ccw_at s keys) (λ d o. o) one both_numbered (2 * e) tail_in))
          (there2 (ccw_at s keys (2 * e)) (L.ccw_in (2 * e) tail_in))

      module _ (s3 : Slab End) (takes_tail : TakesEnd s2 s3 (key_of keys (2 * e))) where
        abbrev f1 : ℕ → ℕ
        f1 = by (ccw_at s keys (2 * e)) (cw_at s keys (2 * e)) (cw_at s keys)

        abbrev g1 : ℕ → ℕ
        g1 = by (cw_at s keys (2 * e)) (ccw_at s keys (2 * e)) (ccw_at s keys)

        tail_taken : NumberedOn s3 (λ d. (d < 2 * length keys) × (d ≢ 2 * e)) (num n e) (key_of keys) (λ d. key_of keys (twin d)) f1 g1
        tail_taken = taken s2 (2 * length keys) (λ d. d < 2 * length keys) (num n e) (key_of keys) (λ d. key_of keys (twin d)) (cw_at s keys) (ccw_at s keys) (λ d o. o) one both_numbered s3 (2 * e) tail_in
            (L.cw_in (2 * e) tail_in) (L.ccw_in (2 * e) tail_in) takes_tail

        on3 : (2 * e + 1 < 2 * length keys) × (2 * e + 1 ≢ 2 * e)
        on3 = (head_in, λ w. omega arith)

        f1_head : f1 (2 * e + 1) ≡ cw_at s keys (2 * e + 1)
        f1_head = first_q (2 * length keys) e (cw_at s keys) (ccw_at s keys) L.cw_in L.ccw_in back fore head_in apart apart'

        g1_head : g1 (2 * e + 1) ≡ ccw_at s keys (2 * e + 1)
        g1_head = first_q (2 * length keys) e (ccw_at s keys) (cw_at s keys) L.ccw_in L.cw_in fore back head_in apart_back apart_back'

        there3 : (d : ℕ) → (d < 2 * length keys) × (d ≢ 2 * e) → IsSome (get s3 (key_of keys d))
        there3 = is_there s3 (2 * length keys) (λ d. (d < 2 * length keys) × (d ≢ 2 * e)) (num n e) (key_of keys) (λ d. key_of keys (twin d)) f1 g1 (λ d o. o.0) one tail_taken

        pub end3 : IsSome (get s3 (key_of keys (2 * e + 1)))
        end3 = there3 (2 * e + 1) on3

        pub behind3 : IsSome (get s3 (end_in s3 (key_of keys (2 * e + 1))).cw)
        behind3 = subst (λ z. IsSome (get s3 z))
            (sym (cw_of s3 (2 * length keys) (λ d. (d < 2 * length keys) × (d ≢ 2 * e)) (num n e) (key_of keys) (λ d. key_of keys (twin d)) f1 g1 (λ d o. o.0) one tail_taken (2 * e + 1) on3 ∙ ap (key_of keys) f1_head))
            (there3 (cw_at s keys (2 * e + 1)) (L.cw_in (2 * e + 1) head_in, apart'))

        pub before3 : IsSome (get s3 (end_in s3 (key_of keys (2 * e + 1))).ccw)
        before3 = subst (λ z. IsSome (get s3 z))
            (sym (ccw_of s3 (2 * length keys) (λ d. (d < 2 * length keys) × (d ≢ 2 * e)) (num n e) (key_of keys) (λ d. key_of keys (twin d)) f1 g1 (λ d o. o.0) one tail_taken (2 * e + 1) on3 ∙ ap (key_of keys) g1_head))
            (there3 (ccw_at s keys (2 * e + 1)) (L.ccw_in (2 * e + 1) head_in, apart_back'))

        module _ (s4 : Slab End) (takes_head : TakesEnd s3 s4 (key_of keys (2 * e + 1))) where
          abbrev f2 : ℕ → ℕ
          f2 = by (g1 (2 * e + 1)) (f1 (2 * e + 1)) f1

          abbrev g2 : ℕ → ℕ
          g2 = by (f1 (2 * e + 1)) (g1 (2 * e + 1)) g1

          both_taken : NumberedOn s4 (λ d. ((d < 2 * length keys) × (d ≢ 2 * e)) × (d ≢ 2 * e + 1)) (num n e) (key_of keys) (λ d. key_of keys (twin d)) f2 g2
          both_taken = taken s3 (2 * length keys) (λ d. (d < 2 * length keys) × (d ≢ 2 * e)) (num n e) (key_of keys) (λ d. key_of keys (twin d)) f1 g1 (λ d o. o.0) one tail_taken s4 (2 * e + 1) on3
              (subst (λ z. z < 2 * length keys) (sym f1_head) (L.cw_in (2 * e + 1) head_in)) (subst (λ z. z < 2 * length keys) (sym g1_head) (L.ccw_in (2 * e + 1) head_in)) takes_head

          on4 : (d : ℕ) → d < 2 * length keys → edge_of d ≢ e → ((d < 2 * length keys) × (d ≢ 2 * e)) × (d ≢ 2 * e + 1)
          on4 d l k = ((l, λ w. k (ap edge_of w ∙ edge_of-tail e)), λ w. k (ap edge_of w ∙ edge_of-head e))

          f2_is : (d : ℕ) → d < 2 * length keys → edge_of d ≢ e → f2 d ≡ past e (cw_at s keys) d
          f2_is = both_passed (2 * length keys) e (cw_at s keys) (ccw_at s keys) L.cw_in L.ccw_in back fore head_in apart apart'

          g2_is : (d : ℕ) → d < 2 * length keys → edge_of d ≢ e → g2 d ≡ past e (ccw_at s keys) d
          g2_is = both_passed (2 * length keys) e (ccw_at s keys) (cw_at s keys) L.ccw_in L.cw_in fore back head_in apart_back apart_back'

          dart4 : (d : ℕ) → d < 2 * length keys → edge_of d ≢ e → (end_in s4 (key_of keys d)).dart ≡ exchanged n e d
          dart4 d l k = dart_of s4 (2 * length keys) (λ d. ((d < 2 * length keys) × (d ≢ 2 * e)) × (d ≢ 2 * e + 1)) (num n e) (key_of keys) (λ d. key_of keys (twin d)) f2 g2 (λ d o. o.0.0) one both_taken d (on4 d l k) ∙ num_is n e d k

          pub count4 : slab_len s4 ≡ 2 * n
          count4 = omega (arith, takes_head.count, takes_tail.count, renumbers_head.count, renumbers_tail.count, A.count, few)

          module _ (keys' : List (ℕ × ℕ)) (K : length keys' ≡ n) (at_e : e < n → get_or keys' e (0, 0) ≡ get_or keys n (0, 0)) (at_other : (k : ℕ) → k ≢ e → k < n → get_or keys' k (0, 0) ≡ get_or keys k (0, 0)) where
            pair : (k : ℕ) → k < n → get_or keys' k (0, 0) ≡ get_or keys (ex n e k) (0, 0)
            pair k l = elim (cases_eq k e) [
              | inl q ↦ ap (λ z. get_or keys' z (0, 0)) q ∙ at_e (subst (λ z. z < n) q l) ∙ ap (λ z. get_or keys z (0, 0)) (sym (ap (ex n e) q ∙ ex_e n e))
              | inr m ↦ at_other k m l ∙ ap (λ z. get_or keys z (0, 0)) (sym (ex_other n e k m (λ w. omega arith)))
            ]

            key_is : (d : ℕ) → d < 2 * n → key_of keys' d ≡ key_of keys (exchanged n e d)
            unfolding X
            key_is d l = elim (even_or_odd d) [
              | inl r ↦
                  let k : r.0 < n = (let z : d ≡ 2 * r.0 = r.1 in omega arith) in
                  ap (key_of keys') r.1 ∙ key_tail keys' r.0 ∙ ap (λ (p : ℕ × ℕ). p.0) (pair r.0 k) ∙ sym (key_tail keys (ex n e r.0)) ∙ ap (key_of keys) (sym (ap (X n e) r.1 ∙ X_tail n e r.0))
              | inr r ↦
                  let k : r.0 < n = (let z : d ≡ 2 * r.0 + 1 = r.1 in omega arith) in
                  ap (key_of keys') r.1 ∙ key_head keys' r.0 ∙ ap (λ (p : ℕ × ℕ). p.1) (pair r.0 k) ∙ sym (key_head keys (ex n e r.0)) ∙ ap (key_of keys) (sym (ap (X n e) r.1 ∙ X_head n e r.0))
            ]

            old_in : (d : ℕ) → d < 2 * n → exchanged n e d < 2 * length keys
            old_in d l = (let z : exchanged n e d < suc (suc (2 * n)) = within n e d le (omega arith) in omega (arith, few))

            abbrev cw_left : ℕ → ℕ
            cw_left d = exchanged n e (past e (cw_at s keys) (exchanged n e d))

            abbrev ccw_left : ℕ → ℕ
            ccw_left d = exchanged n e (past e (ccw_at s keys) (exchanged n e d))

            cw_left_in : (d : ℕ) → d < 2 * n → cw_left d < 2 * n
            cw_left_in d l =
                let w = past_in (2 * length keys) e (cw_at s keys) (ccw_at s keys) L.cw_in L.ccw_in back fore head_in apart apart' (exchanged n e d) (old_in d l) (of_others n e d l) in
                swapped_below n e (past e (cw_at s keys) (exchanged n e d)) le (let z : past e (cw_at s keys) (exchanged n e d) < 2 * length keys = w.0 in omega (arith, few)) w.1

            ccw_left_in : (d : ℕ) → d < 2 * n → ccw_left d < 2 * n
            ccw_left_in d l =
                let w = past_in (2 * length keys) e (ccw_at s keys) (cw_at s keys) L.ccw_in L.cw_in fore back head_in apart_back apart_back' (exchanged n e d) (old_in d l) (of_others n e d l) in
                swapped_below n e (past e (ccw_at s keys) (exchanged n e d)) le (let z : past e (ccw_at s keys) (exchanged n e d) < 2 * length keys = w.0 in omega (arith, few)) w.1

            L4 : IsLinked s4 (2 * n) (key_of keys') (λ d. key_of keys' (twin d)) cw_left ccw_left
            L4 = record {
              each = λ d l.
                  let lo : exchanged n e d < 2 * length keys = old_in d l in
                  let k : edge_of (exchanged n e d) ≢ e = of_others n e d l in
                  ap (get s4) (key_is d l) ∙ both_taken.each (exchanged n e d) (on4 (exchanged n e d) lo k)
                  ∙ same_end (num_is n e (exchanged n e d) k ∙ twice n e d)
                  (ap (key_of keys) (twin_swapped n e d) ∙ sym (key_is (twin d) (twin-below n d l)))
                  (ap (key_of keys) (f2_is (exchanged n e d) lo k ∙ sym (twice n e (past e (cw_at s keys) (exchanged n e d)))) ∙ sym (key_is (cw_left d) (cw_left_in d l)))
                  (ap (key_of keys) (g2_is (exchanged n e d) lo k ∙ sym (twice n e (past e (ccw_at s keys) (exchanged n e d)))) ∙ sym (key_is (ccw_left d) (ccw_left_in d l)));
              cw_in = cw_left_in;
              ccw_in = ccw_left_in;
            }

            L5 : IsLinked s4 (2 * length keys') (key_of keys') (λ d. key_of keys' (twin d)) cw_left ccw_left
            L5 = subst (λ z. IsLinked s4 (2 * z) (key_of keys') (λ d. key_of keys' (twin d)) cw_left ccw_left) (sym K) L4

            -- ---- the tables
            module _ (a b a' b' : ℕ) (first' : List (Option ℕ)) where
              old_past : (d : ℕ) → d < 2 * length keys → passed_in (links_of s keys first a b).cw e d ≡ past e (cw_at s keys) d
              old_past d l =
                  let x : get_or (links_of s keys first a b).cw d 0 ≡ cw_at s keys d = cw_read s keys first a b d l in
                  let y : get_or (links_of s keys first a b).cw (get_or (links_of s keys first a b).cw d 0) 0 ≡ cw_at s keys (cw_at s keys d) =
                  ap (λ z. get_or (links_of s keys first a b).cw z 0) x ∙ cw_read s keys first a b (cw_at s keys d) (L.cw_in d l) in
                  ap (λ z. cond (eqb (edge_of z) e) (get_or (links_of s keys first a b).cw (get_or (links_of s keys first a b).cw d 0) 0) z) x ∙ ap (λ z. cond (eqb (edge_of (cw_at s keys d)) e) z (cw_at s keys d)) y

              old_past' : (d : ℕ) → d < 2 * length keys → passed_in (links_of s keys first a b).ccw e d ≡ past e (ccw_at s keys) d
              old_past' d l =
                  let x : get_or (links_of s keys first a b).ccw d 0 ≡ ccw_at s keys d = ccw_read s keys first a b d l in
                  let y : get_or (links_of s keys first a b).ccw (get_or (links_of s keys first a b).ccw d 0) 0 ≡ ccw_at s keys (ccw_at s keys d) =
                  ap (λ z. get_or (links_of s keys first a b).ccw z 0) x ∙ ccw_read s keys first a b (ccw_at s keys d) (L.ccw_in d l) in
                  ap (λ z. cond (eqb (edge_of z) e) (get_or (links_of s keys first a b).ccw (get_or (links_of s keys first a b).ccw d 0) 0) z) x ∙ ap (λ z. cond (eqb (edge_of (ccw_at s keys d)) e) z (ccw_at s keys d)) y

              pub cw_after : AreLinksRemoved (links_of s keys first a b).cw n e (links_of s4 keys' first' a' b').cw
              cw_after = record {
                size_old = length-cw s keys first a b ∙ (let z : 2 * length keys ≡ suc (suc (2 * n)) = omega (arith, few) in z);
                size = length-cw s4 keys' first' a' b' ∙ ap (λ z. 2 * z) K;
                each = λ d l.
                    let k : d < 2 * length keys' = omega (arith, K) in
                    ap (exchanged n e) (cw_read s4 keys' first' a' b' d k ∙ cw_is s4 (2 * length keys') (key_of keys') (λ d. key_of keys' (twin d)) cw_left ccw_left L5 d k)
                    ∙ twice n e (past e (cw_at s keys) (exchanged n e d)) ∙ sym (old_past (exchanged n e d) (old_in d l));
              }

              pub ccw_after : AreLinksRemoved (links_of s keys first a b).ccw n e (links_of s4 keys' first' a' b').ccw
              ccw_after = record {
                size_old = length-ccw s keys first a b ∙ (let z : 2 * length keys ≡ suc (suc (2 * n)) = omega (arith, few) in z);
                size = length-ccw s4 keys' first' a' b' ∙ ap (λ z. 2 * z) K;
                each = λ d l.
                    let k : d < 2 * length keys' = omega (arith, K) in
                    ap (exchanged n e) (ccw_read s4 keys' first' a' b' d k ∙ ccw_is s4 (2 * length keys') (key_of keys') (λ d. key_of keys' (twin d)) cw_left ccw_left L5 d k)
                    ∙ twice n e (past e (ccw_at s keys) (exchanged n e d)) ∙ sym (old_past' (exchanged n e d) (old_in d l));
              }

              -- ---- first ends
              module _ (tv hv : ℕ) (lt : tv < length first) (lh : hv < length first) (differ : tv ≢ hv)
                  (at_tail : (v : ℕ) → v < length first → first_at s (get_or first v None) ≡ 2 * e → v ≡ tv) (at_head : (v : ℕ) → v < length first → first_at s (get_or first v None) ≡ 2 * e + 1 → v ≡ hv)
                  (is : first' ≡ set (set first tv (next_first s (key_of keys (2 * e)) (get_or first tv None))) hv
                  (next_first s (key_of keys (2 * e + 1)) (get_or (set first tv (next_first s (key_of keys (2 * e)) (get_or first tv None))) hv None))) where
                half : List (Option ℕ)
                half = set first tv (next_first s (key_of keys (2 * e)) (get_or first tv None))

                long : length (set first tv (next_first s (key_of keys (2 * e)) (get_or first tv None))) ≡ length first
                long = length-set first tv (next_first s (key_of keys (2 * e)) (get_or first tv None))

                pub length-first : length first' ≡ length first
                length-first = ap (λ (z : List (Option ℕ)). length z) is
                    ∙ length-set (set first tv (next_first s (key_of keys (2 * e)) (get_or first tv None))) hv
                    (next_first s (key_of keys (2 * e + 1)) (get_or (set first tv (next_first s (key_of keys (2 * e)) (get_or first tv None))) hv None)) ∙ long

                read : (v : ℕ) → v ≢ hv → get_or first' v None ≡ get_or (set first tv (next_first s (key_of keys (2 * e)) (get_or first tv None))) v None
                read v k = ap (λ (z : List (Option ℕ)). get_or z v None) is
                    ∙ get_or-set_other (set first tv (next_first s (key_of keys (2 * e)) (get_or first tv None))) hv v
                    (next_first s (key_of keys (2 * e + 1)) (get_or (set first tv (next_first s (key_of keys (2 * e)) (get_or first tv None))) hv None)) None k

                read_tail : get_or first' tv None ≡ next_first s (key_of keys (2 * e)) (get_or first tv None)
                read_tail = read tv differ ∙ get_or-set_same first tv (next_first s (key_of keys (2 * e)) (get_or first tv None)) None lt

                read_other : (v : ℕ) → v ≢ tv → v ≢ hv → get_or first' v None ≡ get_or first v None
                read_other v j k = read v k ∙ get_or-set_other first tv v (next_first s (key_of keys (2 * e)) (get_or first tv None)) None j

                read_head : get_or first' hv None ≡ next_first s (key_of keys (2 * e + 1)) (get_or first hv None)
                read_head = ap (λ (z : List (Option ℕ)). get_or z hv None) is
                    ∙ get_or-set_same (set first tv (next_first s (key_of keys (2 * e)) (get_or first tv None))) hv
                    (next_first s (key_of keys (2 * e + 1)) (get_or (set first tv (next_first s (key_of keys (2 * e)) (get_or first tv None))) hv None)) None (omega (arith, long, lh))
                    ∙ ap (next_first s (key_of keys (2 * e + 1))) (get_or-set_other first tv hv (next_first s (key_of keys (2 * e)) (get_or first tv None)) None (λ w. differ (sym w)))

                abbrev Left : Option ℕ → ℕ → Type 0
                Left o d = ((o ≡ None) × (first_left (links_of s keys first a b).cw n e d ≡ no_first))
                    ⊎ ((c : ℕ) × (c < 2 * length keys) × (edge_of c ≢ e) × (o ≡ Some (key_of keys c)) × (first_left (links_of s keys first a b).cw n e d ≡ exchanged n e c))

                -- an end of e that is first
                goes : (p : ℕ) → p < 2 * length keys → edge_of p ≡ e → (cw_at s keys p ≢ p → edge_of (cw_at s keys p) ≢ e) → (k : ℕ) → k ≡ key_of keys p → Left (next_first s (key_of keys p) (Some k)) p
                goes p l q out k w =
                    let cw : (end_in s (key_of keys p)).cw ≡ key_of keys (cw_at s keys p) =
                    cw_of s (2 * length keys) (λ d. d < 2 * length keys) (λ d. d) (key_of keys) (λ d. key_of keys (twin d)) (cw_at s keys) (ccw_at s keys) (λ d o. o) one begun p l in
                    let is_first : next_first s (key_of keys p) (Some k) ≡ cond (eqb (key_of keys (cw_at s keys p)) (key_of keys p)) None (Some (key_of keys (cw_at s keys p))) =
                    cond-true (eqb k (key_of keys p)) (cond (eqb (end_in s (key_of keys p)).cw (key_of keys p)) None (Some (end_in s (key_of keys p)).cw)) (Some k) (eq-eqb k (key_of keys p) w)
                    ∙ ap (λ z. cond (eqb z (key_of keys p)) None (Some z)) cw in
                    let old : get_or (links_of s keys first a b).cw p 0 ≡ cw_at s keys p = cw_read s keys first a b p l in
                    let value : first_left (links_of s keys first a b).cw n e p ≡ cond (eqb (cw_at s keys p) p) no_first (exchanged n e (cw_at s keys p)) =
                    first_yes n e (links_of s keys first a b).cw p q ∙ ap (λ z. cond (eqb z p) no_first (exchanged n e z)) old in
                    elim (cases_eq (cw_at s keys p) p) [
                      | inl v ↦ inl (
                        is_first ∙ cond-true (eqb (key_of keys (cw_at s keys p)) (key_of keys p)) None (Some (key_of keys (cw_at s keys p))) (eq-eqb (key_of keys (cw_at s keys p)) (key_of keys p) (ap (key_of keys) v)),
                        value ∙ cond-true (eqb (cw_at s keys p) p) no_first (exchanged n e (cw_at s keys p)) (eq-eqb (cw_at s keys p) p v),
                      )
                      | inr v ↦ inr (
                        cw_at s keys p,
                        L.cw_in p l,
                        out v,
                        is_first ∙ cond-false (eqb (key_of keys (cw_at s keys p)) (key_of keys p)) None (Some (key_of keys (cw_at s keys p))) (ne_eqb (key_of keys (cw_at s keys p)) (key_of keys p) (λ x. v (one (cw_at s keys p) p (L.cw_in p l) l x))),
                        value ∙ cond-false (eqb (cw_at s keys p) p) no_first (exchanged n e (cw_at s keys p)) (ne_eqb (cw_at s keys p) p v),
                      )
                    ]

                kept : (p k : ℕ) → p < 2 * length keys → k ≢ key_of keys p → next_first s (key_of keys p) (Some k) ≡ Some k
                kept p k l w = cond-false (eqb k (key_of keys p)) (cond (eqb (end_in s (key_of keys p)).cw (key_of keys p)) None (Some (end_in s (key_of keys p)).cw)) (Some k) (ne_eqb k (key_of keys p) w)

                none_at : (v : ℕ) → get_or first v None ≡ None → get_or first' v None ≡ None
                none_at v q = elim (cases_eq v hv) [
                  | inl w ↦ ap (λ z. get_or first' z None) w ∙ read_head ∙ ap (next_first s (key_of keys (2 * e + 1))) (ap (λ z. get_or first z None) (sym w) ∙ q)
                  | inr k ↦ elim (cases_eq v tv) [
                    | inl w ↦ ap (λ z. get_or first' z None) w ∙ read_tail ∙ ap (next_first s (key_of keys (2 * e))) (ap (λ z. get_or first z None) (sym w) ∙ q)
                    | inr j ↦ read_other v j k ∙ q
                  ]
                ]

                kept_at : (v d : ℕ) → d < 2 * length keys → edge_of d ≢ e → get_or first v None ≡ Some (key_of keys d) → get_or first' v None ≡ Some (key_of keys d)
                kept_at v d l m q = elim (cases_eq v hv) [
                  | inl w ↦ ap (λ z. get_or first' z None) w ∙ read_head ∙ ap (next_first s (key_of keys (2 * e + 1))) (ap (λ z. get_or first z None) (sym w) ∙ q)
                      ∙ kept (2 * e + 1) (key_of keys d) head_in (λ x. m (ap edge_of (one d (2 * e + 1) l head_in x) ∙ edge_of-head e))
                  | inr k ↦ elim (cases_eq v tv) [
                    | inl w ↦ ap (λ z. get_or first' z None) w ∙ read_tail ∙ ap (next_first s (key_of keys (2 * e))) (ap (λ z. get_or first z None) (sym w) ∙ q)
                        ∙ kept (2 * e) (key_of keys d) tail_in (λ x. m (ap edge_of (one d (2 * e) l tail_in x) ∙ edge_of-tail e))
                    | inr j ↦ read_other v j k ∙ q
                  ]
                ]

                entry : (v : ℕ) → v < length first → (o : Option ℕ) → get_or first v None ≡ o → Left (get_or first' v None) (first_at s o)
                entry v l None q = inl (none_at v q, no_left n e (links_of s keys first a b).cw (omega (arith, few, A.few)) (omega (arith, few, A.few)))
                entry v l (Some k) q =
                    let r = A.firsts v k q in
                    let dart : first_at s (Some k) ≡ r.0 = ap (λ j. (end_in s j).dart) r.2
                    ∙ dart_of s (2 * length keys) (λ d. d < 2 * length keys) (λ d. d) (key_of keys) (λ d. key_of keys (twin d)) (cw_at s keys) (ccw_at s keys) (λ d o. o) one begun r.0 r.1 in
                    let now : first_at s (get_or first v None) ≡ r.0 = ap (first_at s) q ∙ dart in
                    elim (cases_eq (edge_of r.0) e) [
                      | inl w ↦ elim (end_of e r.0 w) [
                        | inl x ↦
                            let vt : v ≡ tv = at_tail v l (now ∙ x) in
                            let z : get_or first' v None ≡ next_first s (key_of keys (2 * e)) (Some k) =
                            ap (λ z. get_or first' z None) vt ∙ read_tail ∙ ap (next_first s (key_of keys (2 * e))) (ap (λ z. get_or first z None) (sym vt) ∙ q) in
                            subst (λ o. Left o (first_at s (Some k))) (sym z) (subst (λ d. Left (next_first s (key_of keys (2 * e)) (Some k)) d) (sym (dart ∙ x))
                            (goes (2 * e) tail_in (edge_of-tail e) (λ u y. elim (end_of e (cw_at s keys (2 * e)) y) [ inl i ↦ u i | inr i ↦ apart i ]) k (r.2 ∙ ap (key_of keys) x)))
                        | inr x ↦
                            let vt : v ≡ hv = at_head v l (now ∙ x) in
                            let z : get_or first' v None ≡ next_first s (key_of keys (2 * e + 1)) (Some k) =
                            ap (λ z. get_or first' z None) vt ∙ read_head ∙ ap (next_first s (key_of keys (2 * e + 1))) (ap (λ z. get_or first z None) (sym vt) ∙ q) in
                            subst (λ o. Left o (first_at s (Some k))) (sym z) (subst (λ d. Left (next_first s (key_of keys (2 * e + 1)) (Some k)) d) (sym (dart ∙ x))
                            (goes (2 * e + 1) head_in (edge_of-head e) (λ u y. elim (end_of e (cw_at s keys (2 * e + 1)) y) [ inl i ↦ apart' i | inr i ↦ u i ]) k (r.2 ∙ ap (key_of keys) x)))
                      ]
                      | inr m ↦ inr (
                        r.0,
                        r.1,
                        m,
                        kept_at v r.0 r.1 m (q ∙ ap (λ z. Some z) r.2),
                        ap (first_left (links_of s keys first a b).cw n e) dart ∙ first_no n e (links_of s keys first a b).cw r.0 m,
                      )
                    ]

                value_at : (v : ℕ) → v < length first → first_at s4 (get_or first' v None) ≡ first_left (links_of s keys first a b).cw n e (first_at s (get_or first v None))
                value_at v l = elim (entry v l (get_or first v None) refl) [
                  | inl r ↦ ap (first_at s4) r.0 ∙ sym r.1
                  | inr r ↦ ap (first_at s4) r.3 ∙ dart4 r.0 r.1 r.2 ∙ sym r.4
                ]

                pub first_is : map (first_at s4) first' ≡ map (first_left (links_of s keys first a b).cw n e) (map (first_at s) first)
                first_is =
                    fill_by_all (λ v. first_left (links_of s keys first a b).cw n e (first_at s (get_or first v None))) (map (first_at s4) first') (length first) 0
                    (length-map first' (first_at s4) ∙ length-first)
                    (λ v l. get_or-map (first_at s4) first' v None 0 (omega (arith, length-first)) ∙ value_at v l)
                    ∙ sym (fill_by_all (λ v. first_left (links_of s keys first a b).cw n e (first_at s (get_or first v None))) (map (first_left (links_of s keys first a b).cw n e) (map (first_at s) first)) (length first) 0
                    (length-map (map (first_at s) first) (first_left (links_of s keys first a b).cw n e) ∙ length-map first (first_at s))
                    (λ v l. get_or-map (first_left (links_of s keys first a b).cw n e) (map (first_at s) first) v 0 0 (omega (arith, length-map first (first_at s)))
                    ∙ ap (first_left (links_of s keys first a b).cw n e) (get_or-map (first_at s) first v None 0 l)))

                pub links_after : AreLinks s4 keys' first'
                links_after = record {
                  few = omega (arith, K, few, A.few);
                  linked = linked_by s4 keys' (λ d. key_of keys' (twin d)) cw_left ccw_left L5;
                  firsts = λ v k q. elim (cases_lt v (length first)) [
                    | inl l ↦ elim (entry v l (get_or first v None) refl) [
                      | inl r ↦ absurd (none-some k (sym r.0 ∙ q))
                      | inr r ↦
                          let below : exchanged n e r.0 < 2 * n = swapped_below n e r.0 le (let z : r.0 < 2 * length keys = r.1 in omega (arith, few)) r.2 in (
                            exchanged n e r.0,
                            omega (arith, K),
                            same_Some k (key_of keys r.0) (sym q ∙ r.3) ∙ sym (key_is (exchanged n e r.0) below ∙ ap (key_of keys) (twice n e r.0)),
                          )
                    ]
                    | inr l ↦ absurd (none-some k (sym (get_or_past first' v None (omega (arith, length-first))) ∙ q))
                  ];
                  count = count4 ∙ ap (λ z. 2 * z) (sym K);
                }

-- ---- what is asked of an edge and of the first ends
pub record CanLeave (s : Slab End) (keys : List (ℕ × ℕ)) (n e : ℕ) : Type 0 where
  pub few : length keys ≡ suc n
  pub le : e < suc n
  pub back : (d : ℕ) → d < 2 * length keys → ccw_at s keys (cw_at s keys d) ≡ d
  pub fore : (d : ℕ) → d < 2 * length keys → cw_at s keys (ccw_at s keys d) ≡ d
  pub apart : cw_at s keys (2 * e) ≢ 2 * e + 1
  pub apart' : cw_at s keys (2 * e + 1) ≢ 2 * e

module _ (s : Slab End) (keys : List (ℕ × ℕ)) (first : List (Option ℕ)) (a b : ℕ) (t : LinkTables) (q : links_of s keys first a b ≡ t) where
  size_cw : length t.cw ≡ 2 * length keys
  size_cw = ap (λ (z : LinkTables). length z.cw) (sym q) ∙ length-cw s keys first a b

  size_ccw : length t.ccw ≡ 2 * length keys
  size_ccw = ap (λ (z : LinkTables). length z.ccw) (sym q) ∙ length-ccw s keys first a b

  cw_value : (d : ℕ) → d < 2 * length keys → get_or t.cw d 0 ≡ cw_at s keys d
  cw_value d l = ap (λ (z : LinkTables). get_or z.cw d 0) (sym q) ∙ cw_read s keys first a b d l

  ccw_value : (d : ℕ) → d < 2 * length keys → get_or t.ccw d 0 ≡ ccw_at s keys d
  ccw_value d l = ap (λ (z : LinkTables). get_or z.ccw d 0) (sym q) ∙ ccw_read s keys first a b d l

  pub can_leave : (e : ℕ) → AreLinks s keys first → 2 * e + 1 < length t.cw → IsBack t.cw t.ccw → IsBack t.ccw t.cw → get_or t.cw (2 * e) 0 ≢ 2 * e + 1 → get_or t.cw (2 * e + 1) 0 ≢ 2 * e
      → CanLeave s keys (length keys - 1) e
  can_leave e A l back forth apart apart' = record {
    few = omega (arith, size_cw);
    le = omega (arith, size_cw);
    back = λ d k.
        ap (ccw_at s keys) (sym (cw_value d k)) ∙ sym (ccw_value (get_or t.cw d 0) (subst (λ z. z < 2 * length keys) (sym (cw_value d k)) (A.linked.cw_in d k))) ∙ back.each d (omega (arith, size_cw));
    fore = λ d k.
        ap (cw_at s keys) (sym (ccw_value d k)) ∙ sym (cw_value (get_or t.ccw d 0) (subst (λ z. z < 2 * length keys) (sym (ccw_value d k)) (A.linked.ccw_in d k))) ∙ forth.each d (omega (arith, size_ccw));
    apart = λ w. apart (cw_value (2 * e) (omega (arith, size_cw)) ∙ w);
    apart' = λ w. apart' (cw_value (2 * e + 1) (omega (arith, size_cw)) ∙ w);
  }

  pub left_over : (m : ℕ) → length t.cw ≡ suc (suc (2 * m)) → length keys - 1 ≡ m
  left_over m h = omega (arith, size_cw)

  size_first : length t.first ≡ length first
  size_first = ap (λ (z : LinkTables). length z.first) (sym q) ∙ length-map first (first_at s)

  pub asked_vertex : (v : ℕ) → v < length t.first → v < length first
  asked_vertex v l = omega (arith, size_first)

  pub asked_first : (x u : ℕ) → ((v : ℕ) → v < length t.first → get_or t.first v 0 ≡ x → v ≡ u) → (v : ℕ) → v < length first → first_at s (get_or first v None) ≡ x → v ≡ u
  asked_first x u h v l w = h v (omega (arith, size_first)) (ap (λ (z : LinkTables). get_or z.first v 0) (sym q) ∙ get_or-map (first_at s) first v None 0 l ∙ w)
