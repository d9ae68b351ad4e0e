-- A pass that marks parallel edges.
use Rattle.std.proofs.Common.{ℕ, ◌≡◌, ◌≢◌, ◌<◌, ◌+◌, ◌⊎◌, inl, inr, refl, sym, ap, ◌∙◌, subst, arith, Bool, true, false, cond, List, length, Option, Some, None}
use Rattle.std.specs.Prelude.{slice_get}
use Rattle.std.specs.Ordering.{is_eq, nat_cmp}
use Rattle.std.specs.declared.cmp.Ordering.{Ordering}
use Rattle.std.specs.declared.cmp.Ordering.TheVariants.{Less, Equal, Greater}
use Rattle.std.proofs.lemmas.Bool.{cases_eq, cases_Bool, both_ways}
use Rattle.std.proofs.lemmas.Map.Lookups.{exact_pairs, exact_unsigned}
use Rattle.std.proofs.Math.ListN.{set, get_or}
use Rattle.std.proofs.lemmas.List.{length-set, get_or-set_same, get_or-set_other}
use Rattle.std.proofs.lemmas.Option.{get_or_from_slice_get, slice_get-get_or, slice_get_within, same_Some}
use Rattle.st_ids.specs.declared.ids.EdgeId.{EdgeId}
use Rattle.st_map.specs.Embedded.{Embedded, edges, tail, head}
use Rattle.st_number.specs.Parallel.{IsParallel, HasParallel, AreParallel, IsMarking, compare_ends}

-- ---- flags
flag_of : (xs : List Bool) (d : ℕ) → slice_get xs d ≡ Some true → get_or xs d false ≡ true
flag_of xs d q = get_or_from_slice_get xs d true false q

is_flag : (xs : List Bool) (d : ℕ) → d < length xs → get_or xs d false ≡ true → slice_get xs d ≡ Some true
is_flag xs d l q = slice_get-get_or xs d false l ∙ ap (λ (b : Bool). Some b) q

set_here : (xs : List Bool) (i : ℕ) → i < length xs → slice_get (set xs i true) i ≡ Some true
set_here xs i l = is_flag (set xs i true) i (omega (arith, length-set xs i true)) (get_or-set_same xs i true false l)

set_keeps : (xs : List Bool) (i d : ℕ) → i < length xs → slice_get xs d ≡ Some true → slice_get (set xs i true) d ≡ Some true
set_keeps xs i d l q = elim (cases_eq d i) [
  | inl p ↦ subst (λ z. slice_get (set xs i true) z ≡ Some true) (sym p) (set_here xs i l)
  | inr ne ↦ is_flag (set xs i true) d (omega (arith, length-set xs i true, slice_get_within xs d true q)) (get_or-set_other xs i d true false ne ∙ flag_of xs d q)
]

set_cases : (xs : List Bool) (i d : ℕ) → slice_get (set xs i true) d ≡ Some true → (d ≡ i) ⊎ (slice_get xs d ≡ Some true)
set_cases xs i d q = elim (cases_eq d i) [
  | inl p ↦ inl p
  | inr ne ↦ inr (is_flag xs d (omega (arith, length-set xs i true, slice_get_within (set xs i true) d true q)) (sym (get_or-set_other xs i d true false ne) ∙ flag_of (set xs i true) d q))
]

-- ---- keys
eq_of : (r : Ordering) → is_eq r ≡ true → r ≡ Equal
eq_of Less p = absurd (both_ways (is_eq Less) refl p)
eq_of Equal p = refl
eq_of Greater p = absurd (both_ways (is_eq Greater) refl p)

same_ends : (x y : ℕ × ℕ) → is_eq (compare_ends x y) ≡ true → x ≡ y
same_ends x y p = exact_pairs nat_cmp nat_cmp exact_unsigned exact_unsigned x y (eq_of (compare_ends x y) p)

abbrev pub ends : Embedded → ℕ → ℕ × ℕ
ends g e = (tail g e, head g e)

ends_same : (g : Embedded) (d e : ℕ) → tail g d ≡ tail g e → head g d ≡ head g e → ends g d ≡ ends g e
ends_same g d e t h = λ i. (t i, h i)

turned : (g : Embedded) (d e : ℕ) → IsParallel g d e → IsParallel g e d
turned g d e p = record { other = λ q. p.other (sym q); tails = sym p.tails; heads = sym p.heads }

none_some : (f : EdgeId) (o : Option EdgeId) → o ≡ None → o ≡ Some f → ⊥
none_some f o p q = let z : None ≡ Some f = sym p ∙ q in cc

-- ---- the last edge
-- the marking stays where the last edge is noted
renoted : (g : Embedded) (noted next : (ℕ × ℕ) → Option EdgeId) (flags : List Bool) (k : ℕ) (e : EdgeId) → e.0 ≡ k → next (ends g k) ≡ Some e
    → ((q : ℕ × ℕ) → next q ≡ cond (is_eq (compare_ends (ends g k) q)) (Some e) (noted q)) → IsMarking g noted flags (k + 1) → IsMarking g next flags (k + 1)
renoted g noted next flags k e ek there others m = record {
  size = m.size;
  known = λ d l. elim (cases_Bool (is_eq (compare_ends (ends g k) (ends g d)))) [
    | inl y ↦ (e, others (ends g d) ∙ ap (λ b. cond b (Some e) (noted (ends g d))) y)
    | inr n ↦ (let f = m.known d l in (f.0, others (ends g d) ∙ ap (λ b. cond b (Some e) (noted (ends g d))) n ∙ f.1))
  ];
  told = λ q f is. elim (cases_Bool (is_eq (compare_ends (ends g k) q))) [
    | inl y ↦
        let same : ends g k ≡ q = same_ends (ends g k) q y in
        let s : Some e ≡ Some f = sym (others q ∙ ap (λ b. cond b (Some e) (noted q)) y) ∙ is in
        let i : e ≡ f = same_Some e f s in
        let j : f.0 ≡ k = sym (ap (λ z. z.0) i) ∙ ek in
        (omega (arith, j), ap (λ z. tail g z) j ∙ ap (λ z. z.0) same, ap (λ z. head g z) j ∙ ap (λ z. z.1) same)
    | inr n ↦
        let s : noted q ≡ Some f = sym (others q ∙ ap (λ b. cond b (Some e) (noted q)) n) ∙ is in
        m.told q f s
  ];
  sound = m.sound;
  marked = m.marked;
}

-- ---- one edge
module _ (g : Embedded) (noted : (ℕ × ℕ) → Option EdgeId) (flags : List Bool) (k : ℕ) (lk : k < edges g) (m : IsMarking g noted flags k) where
  pub mark_new : (next : (ℕ × ℕ) → Option EdgeId) (e : EdgeId) → e.0 ≡ k → noted (ends g k) ≡ None → next (ends g k) ≡ Some e
      → ((q : ℕ × ℕ) → next q ≡ cond (is_eq (compare_ends (ends g k) q)) (Some e) (noted q)) → IsMarking g next flags (k + 1)
  mark_new next e ek none there others = record {
    size = m.size;
    known = λ d l. elim (cases_eq d k) [
      | inl q ↦ subst (λ z. (f : EdgeId) × (next (ends g z) ≡ Some f)) (sym q) (e, there)
      | inr ne ↦ elim (cases_Bool (is_eq (compare_ends (ends g k) (ends g d)))) [
        | inl y ↦ (e, others (ends g d) ∙ ap (λ b. cond b (Some e) (noted (ends g d))) y)
        | inr n ↦ (let f = m.known d (omega arith) in (f.0, others (ends g d) ∙ ap (λ b. cond b (Some e) (noted (ends g d))) n ∙ f.1))
      ]
    ];
    told = λ q f is. elim (cases_Bool (is_eq (compare_ends (ends g k) q))) [
      | inl y ↦
          let same : ends g k ≡ q = same_ends (ends g k) q y in
          let s : Some e ≡ Some f = sym (others q ∙ ap (λ b. cond b (Some e) (noted q)) y) ∙ is in
          let i : e ≡ f = same_Some e f s in
          let j : f.0 ≡ k = sym (ap (λ z. z.0) i) ∙ ek in
          (omega arith, ap (λ z. tail g z) j ∙ ap (λ z. z.0) same, ap (λ z. head g z) j ∙ ap (λ z. z.1) same)
      | inr n ↦
          let s : noted q ≡ Some f = sym (others q ∙ ap (λ b. cond b (Some e) (noted q)) n) ∙ is in
          let o = m.told q f s in
          (omega (arith, o.0), o.1, o.2)
    ];
    sound = m.sound;
    marked = λ c d lc ld p. elim (cases_eq c k) [
      | inl q ↦ absurd (fresh d (omega (arith, p.other)) (subst (λ z. IsParallel g z d) q p))
      | inr nc ↦ elim (cases_eq d k) [
        | inl q ↦ absurd (fresh c (omega arith) (turned g c k (subst (λ z. IsParallel g c z) q p)))
        | inr nd ↦ m.marked c d (omega arith) (omega arith) p
      ]
    ];
  }
    where
      -- no earlier edge is parallel to the new one
      fresh : (d : ℕ) → d < k → IsParallel g k d → ⊥
      fresh d l p = let f = m.known d l in none_some f.0 (noted (ends g k)) none (sym (ap noted (ends_same g d k p.tails p.heads)) ∙ f.1)

  -- before the new edge is noted
  seen_before : (f : EdgeId) → noted (ends g k) ≡ Some f → IsMarking g noted (set (set flags f.0 true) k true) (k + 1)
  seen_before f is = record {
    size = length-set (set flags f.0 true) k true ∙ length-set flags f.0 true ∙ m.size;
    known = λ d l. elim (cases_eq d k) [
      | inl q ↦ subst (λ z. (f : EdgeId) × (noted (ends g z) ≡ Some f)) (sym q) (f, is)
      | inr ne ↦ m.known d (omega arith)
    ];
    told = λ q x h. (let o = m.told q x h in (omega (arith, o.0), o.1, o.2));
    sound = λ d l h. elim (set_cases (set flags f.0 true) k d h) [
      | inl q ↦ subst (λ z. HasParallel g z) (sym q) (f.0, omega (arith, lf), before)
      | inr r ↦ elim (set_cases flags f.0 d r) [
        | inl q ↦ subst (λ z. HasParallel g z) (sym q) (k, lk, turned g k f.0 before)
        | inr s ↦ m.sound d l s
      ]
    ];
    marked = λ c d lc ld p. elim (cases_eq c k) [
      | inl q ↦ subst (λ z. slice_get (set (set flags f.0 true) k true) z ≡ Some true) (sym q) (set_here (set flags f.0 true) k (omega (arith, length-set flags f.0 true, m.size)))
      | inr nc ↦ set_keeps (set flags f.0 true) k c (omega (arith, length-set flags f.0 true, m.size)) (old c d (omega arith) ld nc p)
    ];
  }
    where
      lf : f.0 < k
      lf = (m.told (ends g k) f is).0

      before : IsParallel g k f.0
      before = record { other = λ q. omega (arith, lf); tails = (m.told (ends g k) f is).1; heads = (m.told (ends g k) f is).2 }

      inside : f.0 < length flags
      inside = omega (arith, lf, m.size)

      old : (c d : ℕ) → c < k → d < k + 1 → c ≢ k → IsParallel g c d → slice_get (set flags f.0 true) c ≡ Some true
      old c d lc ld nc p = elim (cases_eq c f.0) [
        | inl q ↦ subst (λ z. slice_get (set flags f.0 true) z ≡ Some true) (sym q) (set_here flags f.0 inside)
        | inr nf ↦ set_keeps flags f.0 c inside (elim (cases_eq d k) [
          | inl q ↦ m.marked c f.0 lc lf (record {
            other = λ z. nf (sym z);
            tails = before.tails ∙ sym (ap (λ z. tail g z) q) ∙ p.tails;
            heads = before.heads ∙ sym (ap (λ z. head g z) q) ∙ p.heads;
          })
          | inr nd ↦ m.marked c d lc (omega arith) p
        ])
      ]

  pub mark_seen : (next : (ℕ × ℕ) → Option EdgeId) (e : EdgeId) → e.0 ≡ k → (f : EdgeId) → noted (ends g k) ≡ Some f → next (ends g k) ≡ Some e
      → ((q : ℕ × ℕ) → next q ≡ cond (is_eq (compare_ends (ends g k) q)) (Some e) (noted q)) → IsMarking g next (set (set flags f.0 true) k true) (k + 1)
  mark_seen next e ek f is there others = renoted g noted next (set (set flags f.0 true) k true) k e ek there others (seen_before f is)

pub mark_end : (g : Embedded) (noted : (ℕ × ℕ) → Option EdgeId) (flags : List Bool) (k : ℕ) → k ≡ edges g → IsMarking g noted flags k → AreParallel g flags
mark_end g noted flags k q m = record {
  size = m.size;
  exact = λ e l. ((λ h. m.sound e l h), (λ p. m.marked e p.0 (omega arith) (omega (arith, p.1)) p.2));
}
