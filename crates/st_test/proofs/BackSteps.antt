-- The first edges back, and the way back.
use Rattle.std.proofs.Common.{◌≡◌, ◌≢◌, ℕ, zero, suc, ◌+◌, ◌-◌, ◌^◌, ◌<◌, ◌≤◌, inl, inr, Bool, true, List, [], ◌∷◌, ◌++◌, length, get_or, refl, sym, ap, ◌∙◌, subst, arith}
use Rattle.std.proofs.Math.ListN.{set}
use Rattle.std.proofs.lemmas.List.{get_or-set_same, get_or-set_other, length-set, length_push, get_or_push, get_or_append_left}
use Rattle.std.proofs.lemmas.Bool.{cases_eq, cases_lt}
use Rattle.st_ids.specs.Graph.{tail_of, head_of, AreWithin}
use Rattle.st_map.specs.Orbits.{iterate}
use Rattle.st_test.proofs.StripSteps.{short}
use Rattle.st_test.specs.Cycle.{back_list}
use Rattle.st_test.specs.BackTables.{is_left, ComesIn, AreBacks, IsClosed, IsTrail, IsTracing, parent}

module _ (n : ℕ) (ends : List (ℕ × ℕ)) (left : List Bool) (e : ℕ) (back : List ℕ) (within : AreWithin n ends) (le : e < length ends) (small : length ends < 2 ^ 30)
    (h : AreBacks n ends left e back) where
  pub backs_set : is_left left (tail_of ends e) ≡ true → get_or back (head_of ends e) 0 ≡ 2 ^ 32 - 1 → AreBacks n ends left (e + 1) (set back (head_of ends e) e)
  backs_set y free =
      let lh : head_of ends e < n = (within e le).1 in
      let same : get_or (set back (head_of ends e) e) (head_of ends e) 0 ≡ e = get_or-set_same back (head_of ends e) e 0 (omega (arith, h.size)) in
      let other : (v : ℕ) → (v ≡ head_of ends e → ⊥) → get_or (set back (head_of ends e) e) v 0 ≡ get_or back v 0 = λ v ne. get_or-set_other back (head_of ends e) v e 0 ne in
      let new : (v : ℕ) → v ≡ head_of ends e → get_or (set back (head_of ends e) e) v 0 ≡ e = λ v q. ap (λ z. get_or (set back (head_of ends e) e) z 0) q ∙ same in
      record {
        size = length-set back (head_of ends e) e ∙ h.size;
        found = λ v l lt. elim (cases_eq v (head_of ends e)) [
          | inl q ↦ record {
            into = ap (head_of ends) (new v q) ∙ sym q;
            from = ap (λ z. is_left left (tail_of ends z)) (new v q) ∙ y;
          }
          | inr ne ↦ elim (h.mark v l) [
            | inl a ↦ subst (λ z. ComesIn ends left v z) (sym (other v ne)) (h.found v l a)
            | inr m ↦ absurd (omega (arith, other v ne))
          ]
        ];
        first = λ v d l ld lt c. elim (cases_eq v (head_of ends e)) [
          | inl q ↦ h.first v d l (omega (arith, new v q)) (let old : get_or back v 0 ≡ get_or back (head_of ends e) 0 = ap (λ z. get_or back z 0) q in omega arith) c
          | inr ne ↦ elim (cases_eq d e) [
            | inl qd ↦ ne (sym c.into ∙ ap (head_of ends) qd)
            | inr nd ↦ h.first v d l (omega arith) (omega (arith, other v ne)) c
          ]
        ];
        mark = λ v l. elim (cases_eq v (head_of ends e)) [
          | inl q ↦ inl (omega (arith, new v q))
          | inr ne ↦ elim (h.mark v l) [ inl a ↦ inl (omega (arith, other v ne)) | inr m ↦ inr (other v ne ∙ m) ]
        ];
      }

  pub backs_keep : (is_left left (tail_of ends e) ≡ true → get_or back (head_of ends e) 0 ≡ 2 ^ 32 - 1 → ⊥) → AreBacks n ends left (e + 1) back
  backs_keep never = record {
    size = h.size;
    found = λ v l lt. elim (h.mark v l) [ inl a ↦ h.found v l a | inr m ↦ absurd (omega arith) ];
    first = λ v d l ld lt c. elim (cases_eq d e) [
      | inl q ↦
          let at : head_of ends e ≡ v = ap (head_of ends) (sym q) ∙ c.into in
          let y : is_left left (tail_of ends e) ≡ true = ap (λ z. is_left left (tail_of ends z)) (sym q) ∙ c.from in
          elim (h.mark v l) [
            | inl a ↦ omega arith
            | inr m ↦ never y (ap (λ z. get_or back z 0) at ∙ m)
          ]
      | inr ne ↦ h.first v d l (omega arith) lt c
    ];
    mark = λ v l. elim (h.mark v l) [ inl a ↦ inl (omega arith) | inr m ↦ inr m ];
  }

-- ---- the way back
module _ (n : ℕ) (ends : List (ℕ × ℕ)) (left : List Bool) (back : List ℕ) (start : ℕ) (passed place : List ℕ) (v : ℕ) (small : n < 2 ^ 30)
    (h : IsTracing n ends left back start passed place v) where
  apart : (a b : ℕ) → a < b → b < length passed → get_or passed a 0 ≢ get_or passed b 0
  apart a b l m q =
      let e : a ≡ b = sym (h.marked a (omega arith)) ∙ ap (λ z. get_or place z 0) q ∙ h.marked b m in
      omega arith

  pub passed-short : length passed ≤ n
  passed-short = short n passed h.within apart

  pub trail_all : (get_or place v 0 ≡ 2 ^ 32 - 1 → ⊥) → IsTrail ends back start passed (get_or place v 0)
  trail_all seen = elim (h.marks v h.below) [
    | inl m ↦ absurd (seen m)
    | inr p ↦ record {
      each = h.each;
      loops = p.0;
      again = sym h.now ∙ sym p.1 ∙ h.each (get_or place v 0) p.0;
      apart = apart;
    }
  ]

  pub trail_more : IsClosed n ends left back → get_or place v 0 ≡ 2 ^ 32 - 1 → IsTracing n ends left back start (passed ++ v ∷ []) (set place v (length passed)) (parent ends back v)
  trail_more cl new =
      let lp : v < length place = omega (arith, h.below, h.size) in
      let here : get_or (set place v (length passed)) v 0 ≡ length passed = get_or-set_same place v (length passed) 0 lp in
      let other : (w : ℕ) → (w ≡ v → ⊥) → get_or (set place v (length passed)) w 0 ≡ get_or place w 0 = λ w ne. get_or-set_other place v w (length passed) 0 ne in
      let old : (k : ℕ) → k < length passed → get_or (passed ++ v ∷ []) k 0 ≡ get_or passed k 0 = λ k l. get_or_append_left passed (v ∷ []) 0 k l in
      let top : (k : ℕ) → length passed ≡ k → get_or (passed ++ v ∷ []) k 0 ≡ v = λ k q. get_or_push passed v 0 k q in
      let size : length (passed ++ v ∷ []) ≡ length passed + 1 = length_push passed v in
      let at_top : (k : ℕ) → k < length (passed ++ v ∷ []) → length passed ≤ k → length passed ≡ k = λ k l ge. omega arith in
      let not_v : (k : ℕ) → k < length passed → get_or passed k 0 ≡ v → ⊥ = λ k l q.
      (let m : k ≡ 2 ^ 32 - 1 = sym (h.marked k l) ∙ ap (λ z. get_or place z 0) q ∙ new in omega (arith, passed-short)) in
      record {
        size = length-set place v (length passed) ∙ h.size;
        each = λ k l. elim (cases_lt k (length passed)) [
          | inl lt ↦ old k lt ∙ h.each k lt
          | inr ge ↦ top k (at_top k l ge) ∙ h.now ∙ ap (λ z. iterate z (parent ends back) start) (at_top k l ge)
        ];
        now = ap (parent ends back) h.now ∙ ap (λ z. iterate z (parent ends back) start) (let q : suc (length passed) ≡ length (passed ++ v ∷ []) = omega arith in q);
        below = cl.vertex v h.below h.is_one;
        is_one = cl.stays v h.below h.is_one;
        within = λ k l. elim (cases_lt k (length passed)) [
          | inl lt ↦ omega (arith, old k lt, h.within k lt)
          | inr ge ↦ omega (arith, top k (at_top k l ge), h.below)
        ];
        marked = λ k l. elim (cases_lt k (length passed)) [
          | inl lt ↦ ap (λ z. get_or (set place v (length passed)) z 0) (old k lt) ∙ other (get_or passed k 0) (not_v k lt) ∙ h.marked k lt
          | inr ge ↦ ap (λ z. get_or (set place v (length passed)) z 0) (top k (at_top k l ge)) ∙ here ∙ at_top k l ge
        ];
        marks = λ w l. elim (cases_eq w v) [
          | inl q ↦
              let a : get_or (set place v (length passed)) w 0 ≡ length passed = ap (λ z. get_or (set place v (length passed)) z 0) q ∙ here in
              inr (omega arith, ap (λ z. get_or (passed ++ v ∷ []) z 0) a ∙ top (length passed) refl ∙ sym q)
          | inr ne ↦ elim (h.marks w l) [
            | inl m ↦ inl (other w ne ∙ m)
            | inr p ↦ inr (omega (arith, other w ne, p.0), ap (λ z. get_or (passed ++ v ∷ []) z 0) (other w ne) ∙ old (get_or place w 0) p.0 ∙ p.1)
          ]
        ];
      }

-- ---- lists of edges back
pub back_list-push : (b : ℕ → ℕ) (f k : ℕ) → back_list b f (suc k) ≡ back_list b (suc f) k ++ b f ∷ []
back_list-push b f zero = ap (λ x. b x ∷ []) (let q : f + 0 ≡ f = omega arith in q)
back_list-push b f (suc k) =
    ap (λ x. b x ∷ back_list b f (suc k)) (let q : f + suc k ≡ suc f + k = omega arith in q) ∙ ap (λ xs. b (suc f + k) ∷ xs) (back_list-push b f k)

pub back_list-same : (b c : ℕ → ℕ) (f k : ℕ) → ((i : ℕ) → f ≤ i → i < f + k → b i ≡ c i) → back_list b f k ≡ back_list c f k
back_list-same b c f zero h = refl
back_list-same b c f (suc k) h =
    ap (λ x. x ∷ back_list b f k) (h (f + k) (omega arith) (omega arith)) ∙ ap (λ xs. c (f + k) ∷ xs) (back_list-same b c f k (λ i l m. h i l (omega arith)))

pub back_list-length : (b : ℕ → ℕ) (f k : ℕ) → length (back_list b f k) ≡ k
back_list-length b f zero = refl
back_list-length b f (suc k) = omega (arith, back_list-length b f k)

pub push_step : (b : ℕ → ℕ) (j k q r : ℕ) (xs : List ℕ) → xs ≡ back_list b k q → j + 1 ≡ k → r ≡ q + 1 → xs ++ b j ∷ [] ≡ back_list b j r
push_step b j k q r xs h jk rq =
    ap (λ z. z ++ b j ∷ []) (h ∙ ap (λ z. back_list b z q) (let e : k ≡ suc j = omega arith in e)) ∙ sym (back_list-push b j q)
    ∙ ap (λ z. back_list b j z) (let e : suc q ≡ r = omega arith in e)
