-- The lists that begin with the leftmost edge out have the same clockwise next.
use Rattle.std.proofs.Common.{◌≡◌, ◌≢◌, ℕ, zero, suc, ◌+◌, ◌-◌, ◌*◌, ◌<◌, ◌≤◌, ◌⊎◌, inl, inr, List, [], map, reverse, length, get_or, refl, sym, ap, ◌∙◌, subst, arith, length-append}
use Rattle.std.specs.List.{range_with_len}
use Rattle.std.proofs.lemmas.List.{length-map, length-reverse, get_or_append_left, get_or-append-add, get_or-reverse, get_or-map}
use Rattle.std.proofs.lemmas.List.FromFn.{get_or-map-range_with_len}
use Rattle.std.proofs.lemmas.Bool.{cases_lt, cases_eq, cases_Bool, both_ways}
use Rattle.st_ids.specs.Ends.{is_out}
use Rattle.st_map.specs.Embedded.{Embedded, edges, darts, tail, head, order, at, next, face, faces}
use Rattle.st_map.specs.Embedded.{HasOrders}
use Rattle.st_test.specs.Planar.{IsPlanarSt}
use Rattle.st_sides.specs.Conditions.{AreSides, left_face, right_face}
use Rattle.st_sides.specs.LocalSides.{first}
use Rattle.st_sides.specs.Normal.{clockwise, reordered, NormalLaw}
use Rattle.st_map.proofs.Public.{at-tail, at-head, is_out-tail, next-at, next-last}
use Rattle.st_sides.proofs.FaceRuns.{at_st, poles_apart}
use Rattle.st_sides.proofs.LocalLemmas.{out_place, in_place, out_there, in_there, after_outs, after_ins, some_out}
use Rattle.st_sides.specs.Rotation.{IsCyclicShift, OrderLaw}
use Rattle.st_sides.specs.Sides.{outs, ins, low, high, left_path, right_path}
use Rattle.st_sides.proofs.RotationLemmas.{HasOnce, IsCircle, rotation}
use Rattle.st_sides.proofs.ReorderLemmas.{at-reordered, planar-re, sides-re, left_face-re, right_face-re, faces-re}

cw-length : (os is : List ℕ) → length (clockwise os is) ≡ length os + length is
cw-length os is =
    omega (arith, length-append (map (λ e. 2 * e) os) (reverse (map (λ e. 2 * e + 1) is)), length-map os (λ e. 2 * e), length-map is (λ e. 2 * e + 1), length-reverse (map (λ e. 2 * e + 1) is))

cw-out : (os is : List ℕ) (i : ℕ) → i < length os → get_or (clockwise os is) i 0 ≡ 2 * get_or os i 0
cw-out os is i l =
    get_or_append_left (map (λ e. 2 * e) os) (reverse (map (λ e. 2 * e + 1) is)) 0 i (omega (arith, length-map os (λ e. 2 * e)))
    ∙ get_or-map (λ e. 2 * e) os i 0 0 l

cw-in : (os is : List ℕ) (j : ℕ) → j < length is → get_or (clockwise os is) (length os + j) 0 ≡ 2 * get_or is (length is - 1 - j) 0 + 1
cw-in os is j l =
    let n : length (map (λ e. 2 * e) os) ≡ length os = length-map os (λ e. 2 * e) in
    let m : length (map (λ e. 2 * e + 1) is) ≡ length is = length-map is (λ e. 2 * e + 1) in
    ap (λ k. get_or (clockwise os is) (k + j) 0) (sym n)
    ∙ get_or-append-add (map (λ e. 2 * e) os) (reverse (map (λ e. 2 * e + 1) is)) j 0
    ∙ get_or-reverse (map (λ e. 2 * e + 1) is) j 0 (omega arith)
    ∙ ap (λ k. get_or (map (λ e. 2 * e + 1) is) (k - 1 - j) 0) m
    ∙ get_or-map (λ e. 2 * e + 1) is (length is - 1 - j) 0 0 (omega arith)

-- l has each end at v once and no other
record HasDarts (g : Embedded) (v : ℕ) (l : List ℕ) : Type 0 where
  own : (i : ℕ) → i < length l → (get_or l i 0 < darts g) × (at g (get_or l i 0) ≡ v)
  listed : (d : ℕ) → d < darts g → at g d ≡ v → (i : ℕ) × (i < length l) × (get_or l i 0 ≡ d)
  once : (i j : ℕ) → i < j → j < length l → get_or l i 0 ≢ get_or l j 0

module _ (g : Embedded) (s t outer : ℕ) (st : IsPlanarSt g s t outer) (outs ins : ℕ → List ℕ) (low high : ℕ → ℕ) (left_path right_path : ℕ → List ℕ)
    (sides : AreSides g s t outer outs ins low high left_path right_path) where
  lists : List (List ℕ)
  lists = map (λ v. clockwise (outs v) (ins v)) (range_with_len 0 g.vertices)

  order-is : (v : ℕ) → v < g.vertices → order (reordered g lists) v ≡ clockwise (outs v) (ins v)
  unfolding lists
  order-is v l = get_or-map-range_with_len (λ v. clockwise (outs v) (ins v)) 0 g.vertices v v [] l (omega arith)

  -- each place of the list holds an end out or an end in
  which : (v i : ℕ) → i < length (clockwise (outs v) (ins v))
      → ((i < length (outs v)) × (get_or (clockwise (outs v) (ins v)) i 0 ≡ 2 * get_or (outs v) i 0))
      ⊎ ((length (outs v) ≤ i) × (length (ins v) - 1 - (i - length (outs v)) < length (ins v)) × (get_or (clockwise (outs v) (ins v)) i 0 ≡ 2 * get_or (ins v) (length (ins v) - 1 - (i - length (outs v))) 0 + 1))
  which v i l = elim (cases_lt i (length (outs v))) [
    | inl m ↦ inl (m, cw-out (outs v) (ins v) i m)
    | inr m ↦
        let n : length (clockwise (outs v) (ins v)) ≡ length (outs v) + length (ins v) = cw-length (outs v) (ins v) in
        let at' : i ≡ length (outs v) + (i - length (outs v)) = omega arith in
        inr (m, omega arith, ap (λ k. get_or (clockwise (outs v) (ins v)) k 0) at' ∙ cw-in (outs v) (ins v) (i - length (outs v)) (omega arith))
  ]

  ends-at : (v : ℕ) → v < g.vertices → HasDarts (reordered g lists) v (clockwise (outs v) (ins v))
  ends-at v lv =
      let n : length (clockwise (outs v) (ins v)) ≡ length (outs v) + length (ins v) = cw-length (outs v) (ins v) in
      let os : List ℕ = outs v in
      let is : List ℕ = ins v in
      record {
        own = λ i li. elim (which v i li) [
          | inl w ↦
              let h : (get_or (outs v) i 0 < edges g) × (tail g (get_or (outs v) i 0) ≡ v) = out_there g s t outer st outs ins low high left_path right_path sides v i lv w.0 in
              (omega (arith, h.0, w.1), ap (at (reordered g lists)) w.1 ∙ at-reordered g lists (2 * get_or (outs v) i 0) ∙ at-tail g (get_or (outs v) i 0) ∙ h.1)
          | inr w ↦
              let j : ℕ = length (ins v) - 1 - (i - length (outs v)) in
              let h : (get_or (ins v) j 0 < edges g) × (head g (get_or (ins v) j 0) ≡ v) = in_there g s t outer st outs ins low high left_path right_path sides v j lv w.1 in
              (omega (arith, h.0, w.2), ap (at (reordered g lists)) w.2 ∙ at-reordered g lists (2 * get_or (ins v) j 0 + 1) ∙ at-head g (get_or (ins v) j 0) ∙ h.1)
        ];
        listed = λ d ld a. elim (cases_Bool (is_out d)) [
          | inl o ↦
              let q : (j : ℕ) × (j < length (outs v)) × (2 * get_or (outs v) j 0 ≡ d) =
              out_place g s t outer st outs ins low high left_path right_path sides v d lv ld (sym (at-reordered g lists d) ∙ a) o in
              (q.0, omega (arith, q.1), cw-out (outs v) (ins v) q.0 q.1 ∙ q.2)
          | inr o ↦
              let q : (j : ℕ) × (j < length (ins v)) × (2 * get_or (ins v) j 0 + 1 ≡ d) =
              in_place g s t outer st outs ins low high left_path right_path sides v d lv ld (sym (at-reordered g lists d) ∙ a) o in
              let back : length (ins v) - 1 - (length (ins v) - 1 - q.0) ≡ q.0 = omega (arith, q.1) in (
                length (outs v) + (length (ins v) - 1 - q.0),
                omega (arith, q.1),
                cw-in (outs v) (ins v) (length (ins v) - 1 - q.0) (omega (arith, q.1)) ∙ ap (λ k. 2 * get_or (ins v) k 0 + 1) back ∙ q.2,
              )
        ];
        once = λ i j ij lj e. apart v lv i j ij lj (which v i (omega arith)) (which v j lj) e;
      }
    where
      apart : (v : ℕ) → v < g.vertices → (i j : ℕ) → i < j → j < length (clockwise (outs v) (ins v))
          → ((i < length (outs v)) × (get_or (clockwise (outs v) (ins v)) i 0 ≡ 2 * get_or (outs v) i 0))
          ⊎ ((length (outs v) ≤ i) × (length (ins v) - 1 - (i - length (outs v)) < length (ins v)) × (get_or (clockwise (outs v) (ins v)) i 0 ≡ 2 * get_or (ins v) (length (ins v) - 1 - (i - length (outs v))) 0 + 1))
          → ((j < length (outs v)) × (get_or (clockwise (outs v) (ins v)) j 0 ≡ 2 * get_or (outs v) j 0))
          ⊎ ((length (outs v) ≤ j) × (length (ins v) - 1 - (j - length (outs v)) < length (ins v)) × (get_or (clockwise (outs v) (ins v)) j 0 ≡ 2 * get_or (ins v) (length (ins v) - 1 - (j - length (outs v))) 0 + 1))
          → get_or (clockwise (outs v) (ins v)) i 0 ≡ get_or (clockwise (outs v) (ins v)) j 0 → ⊥
      apart v lv i j ij lj (inl a) (inl b) e = (sides.outs_are v lv).has.once i j ij b.0 (omega (arith, a.1, b.1))
      apart v lv i j ij lj (inl a) (inr b) e = omega (arith, a.1, b.2)
      apart v lv i j ij lj (inr a) (inl b) e = omega (arith, a.0, b.0)
      apart v lv i j ij lj (inr a) (inr b) e =
          let n : length (clockwise (outs v) (ins v)) ≡ length (outs v) + length (ins v) = cw-length (outs v) (ins v) in
          (sides.ins_are v lv).has.once (length (ins v) - 1 - (j - length (outs v))) (length (ins v) - 1 - (i - length (outs v)))
          (omega (arith, a.0)) a.1 (omega (arith, a.2, b.2))

  ends-of : (v : ℕ) → v < g.vertices → HasDarts (reordered g lists) v (order (reordered g lists) v)
  ends-of v l = subst (λ es. HasDarts (reordered g lists) v es) (sym (order-is v l)) (ends-at v l)

  below-re : (d : ℕ) → d < darts g → at (reordered g lists) d < g.vertices
  below-re d l = omega (arith, at-reordered g lists d, at_st g s t outer st d l)

  orders-re : HasOrders (reordered g lists)
  orders-re = record {
    own = λ v i lv li. (ends-of v lv).own i li;
    listed = λ d l. (ends-of (at (reordered g lists) d) (below-re d l)).listed d l refl;
    once = λ v i j lv ij lj. (ends-of v lv).once i j ij lj;
  }

  next-in_list : (v i : ℕ) → v < g.vertices → suc i < length (clockwise (outs v) (ins v))
      → next (reordered g lists) (get_or (clockwise (outs v) (ins v)) i 0) ≡ get_or (clockwise (outs v) (ins v)) (suc i) 0
  next-in_list v i lv l =
      let P : List ℕ → Type 0 = λ es. suc i < length es → next (reordered g lists) (get_or es i 0) ≡ get_or es (suc i) 0 in
      subst P (order-is v lv) (next-at (reordered g lists) orders-re below-re v i lv) l

  next-at_end : (v i : ℕ) → v < g.vertices → suc i ≡ length (clockwise (outs v) (ins v))
      → next (reordered g lists) (get_or (clockwise (outs v) (ins v)) i 0) ≡ get_or (clockwise (outs v) (ins v)) 0 0
  next-at_end v i lv l =
      let P : List ℕ → Type 0 = λ es. suc i ≡ length es → next (reordered g lists) (get_or es i 0) ≡ get_or es 0 0 in
      subst P (order-is v lv) (next-last (reordered g lists) orders-re below-re v i lv) l

  next-out : (v i : ℕ) → v < g.vertices → i < length (outs v) → next (reordered g lists) (2 * get_or (outs v) i 0) ≡ next g (2 * get_or (outs v) i 0)
  next-out v i lv li =
      let n : length (clockwise (outs v) (ins v)) ≡ length (outs v) + length (ins v) = cw-length (outs v) (ins v) in
      let here : get_or (clockwise (outs v) (ins v)) i 0 ≡ 2 * get_or (outs v) i 0 = cw-out (outs v) (ins v) i li in
      elim (cases_lt (i + 1) (length (outs v))) [
        | inl m ↦
            let si : suc i ≡ i + 1 = omega arith in
            ap (next (reordered g lists)) (sym here) ∙ next-in_list v i lv (omega arith) ∙ ap (λ k. get_or (clockwise (outs v) (ins v)) k 0) si
            ∙ cw-out (outs v) (ins v) (i + 1) m ∙ sym ((sides.outs_are v lv).follow i m)
        | inr m ↦
            let e : i + 1 ≡ length (outs v) = omega arith in
            elim (cases_eq (length (ins v)) 0) [
              | inl z ↦ elim (after_outs g s t outer st outs ins low high left_path right_path sides v i lv e) [
                | inl w ↦ ap (next (reordered g lists)) (sym here) ∙ next-at_end v i lv (omega arith) ∙ cw-out (outs v) (ins v) 0 (omega arith) ∙ sym w.1
                | inr w ↦ absurd (omega (arith, w.0))
              ]
              | inr z ↦ elim (after_outs g s t outer st outs ins low high left_path right_path sides v i lv e) [
                | inl w ↦ absurd (elim (cases_eq v s) [
                  | inl es ↦
                      let h : (get_or (ins v) 0 0 < edges g) × (head g (get_or (ins v) 0 0) ≡ v) = in_there g s t outer st outs ins low high left_path right_path sides v 0 lv (omega arith) in
                      st.source.none_in (get_or (ins v) 0 0) h.0 (h.1 ∙ es)
                  | inr ns ↦
                      let h : (get_or (outs v) i 0 < edges g) × (tail g (get_or (outs v) i 0) ≡ v) = out_there g s t outer st outs ins low high left_path right_path sides v i lv li in
                      both_ways (is_out (2 * get_or (outs v) i 0))
                      ((sides.outs_are v lv).begins ns (omega arith) (2 * get_or (outs v) i 0) (omega (arith, h.0)) w.1) (is_out-tail (get_or (outs v) i 0))
                ])
                | inr w ↦
                    let si : suc i ≡ length (outs v) + 0 = omega arith in
                    let k0 : length (ins v) - 1 - 0 ≡ length (ins v) - 1 = omega arith in
                    ap (next (reordered g lists)) (sym here) ∙ next-in_list v i lv (omega arith) ∙ ap (λ k. get_or (clockwise (outs v) (ins v)) k 0) si
                    ∙ cw-in (outs v) (ins v) 0 (omega arith) ∙ ap (λ k. 2 * get_or (ins v) k 0 + 1) k0 ∙ sym w.1
              ]
            ]
      ]

  next-in : (v j : ℕ) → v < g.vertices → j < length (ins v) → next (reordered g lists) (2 * get_or (ins v) j 0 + 1) ≡ next g (2 * get_or (ins v) j 0 + 1)
  next-in v zero lv lj =
      let n : length (clockwise (outs v) (ins v)) ≡ length (outs v) + length (ins v) = cw-length (outs v) (ins v) in
      let k0 : length (ins v) - 1 - (length (ins v) - 1) ≡ 0 = omega arith in
      let i : ℕ = length (outs v) + (length (ins v) - 1) in
      let here : get_or (clockwise (outs v) (ins v)) i 0 ≡ 2 * get_or (ins v) 0 0 + 1 =
      cw-in (outs v) (ins v) (length (ins v) - 1) (omega arith) ∙ ap (λ k. 2 * get_or (ins v) k 0 + 1) k0 in
      let step : next (reordered g lists) (2 * get_or (ins v) 0 0 + 1) ≡ get_or (clockwise (outs v) (ins v)) 0 0 =
      ap (next (reordered g lists)) (sym here) ∙ next-at_end v i lv (omega arith) in
      elim (cases_eq (length (outs v)) 0) [
        | inl z ↦ elim (after_ins g s t outer st outs ins low high left_path right_path sides v lv lj) [
          | inl w ↦ absurd (omega (arith, w.0))
          | inr w ↦
              let z0 : 0 ≡ length (outs v) + 0 = omega arith in
              let k1 : length (ins v) - 1 - 0 ≡ length (ins v) - 1 = omega arith in
              step ∙ ap (λ k. get_or (clockwise (outs v) (ins v)) k 0) z0 ∙ cw-in (outs v) (ins v) 0 lj ∙ ap (λ k. 2 * get_or (ins v) k 0 + 1) k1 ∙ sym w.1
        ]
        | inr z ↦ elim (after_ins g s t outer st outs ins low high left_path right_path sides v lv lj) [
          | inl w ↦ step ∙ cw-out (outs v) (ins v) 0 w.0 ∙ sym w.1
          | inr w ↦ absurd (elim (cases_eq v t) [
            | inl et ↦
                let h : (get_or (outs v) 0 0 < edges g) × (tail g (get_or (outs v) 0 0) ≡ v) = out_there g s t outer st outs ins low high left_path right_path sides v 0 lv (omega arith) in
                st.sink.none_out (get_or (outs v) 0 0) h.0 (h.1 ∙ et)
            | inr nt ↦ both_ways (is_out (next g (2 * get_or (ins v) 0 0 + 1))) w.0 ((sides.ins_are v lv).begins nt lj)
          ])
        ]
      ]
  next-in v (suc j) lv lj =
      let n : length (clockwise (outs v) (ins v)) ≡ length (outs v) + length (ins v) = cw-length (outs v) (ins v) in
      let back : length (ins v) - 1 - (length (ins v) - 1 - suc j) ≡ suc j = omega arith in
      let back' : length (ins v) - 1 - (length (ins v) - 1 - j) ≡ j = omega arith in
      let i : ℕ = length (outs v) + (length (ins v) - 1 - suc j) in
      let here : get_or (clockwise (outs v) (ins v)) i 0 ≡ 2 * get_or (ins v) (suc j) 0 + 1 =
      cw-in (outs v) (ins v) (length (ins v) - 1 - suc j) (omega arith) ∙ ap (λ k. 2 * get_or (ins v) k 0 + 1) back in
      let si : suc i ≡ length (outs v) + (length (ins v) - 1 - j) = omega arith in
      let jj : suc j ≡ j + 1 = omega arith in
      ap (next (reordered g lists)) (sym here) ∙ next-in_list v i lv (omega arith) ∙ ap (λ k. get_or (clockwise (outs v) (ins v)) k 0) si
      ∙ cw-in (outs v) (ins v) (length (ins v) - 1 - j) (omega arith) ∙ ap (λ k. 2 * get_or (ins v) k 0 + 1) back'
      ∙ sym (ap (λ k. next g (2 * get_or (ins v) k 0 + 1)) jj ∙ (sides.ins_are v lv).follow j (omega arith))

  same_next : (d : ℕ) → d < darts g → next (reordered g lists) d ≡ next g d
  same_next d l =
      let v : ℕ = at g d in
      let lv : v < g.vertices = at_st g s t outer st d l in
      elim (cases_Bool (is_out d)) [
        | inl o ↦
            let q : (j : ℕ) × (j < length (outs v)) × (2 * get_or (outs v) j 0 ≡ d) = out_place g s t outer st outs ins low high left_path right_path sides v d lv l refl o in
            ap (next (reordered g lists)) (sym q.2) ∙ next-out v q.0 lv q.1 ∙ ap (next g) q.2
        | inr o ↦
            let q : (j : ℕ) × (j < length (ins v)) × (2 * get_or (ins v) j 0 + 1 ≡ d) = in_place g s t outer st outs ins low high left_path right_path sides v d lv l refl o in
            ap (next (reordered g lists)) (sym q.2) ∙ next-in v q.0 lv q.1 ∙ ap (next g) q.2
      ]

  -- the two lists of a vertex as one circle
  order-once : (v : ℕ) → v < g.vertices → HasOnce (λ d. (d < darts g) × (at g d ≡ v)) (order g v)
  order-once v lv = record {
    own = λ i li. st.orders.own v i lv li;
    listed = λ d h. let P : ℕ → Type 0 = λ u. (i : ℕ) × (i < length (order g u)) × (get_or (order g u) i 0 ≡ d) in subst P h.1 (st.orders.listed d h.0);
    once = λ i j ij lj. st.orders.once v i j lv ij lj;
  }

  turned-once : (v : ℕ) → v < g.vertices → HasOnce (λ d. (d < darts g) × (at g d ≡ v)) (clockwise (outs v) (ins v))
  turned-once v lv = record {
    own = λ i li. let h = (ends-at v lv).own i li in (h.0, sym (at-reordered g lists (get_or (clockwise (outs v) (ins v)) i 0)) ∙ h.1);
    listed = λ d h. (ends-at v lv).listed d h.0 (at-reordered g lists d ∙ h.1);
    once = (ends-at v lv).once;
  }

  order-circle : (v : ℕ) → v < g.vertices → IsCircle (next g) (order g v)
  order-circle v lv = record {
    next = λ i l. next-at g st.orders (λ d ld. at_st g s t outer st d ld) v i lv l;
    around = λ i l. next-last g st.orders (λ d ld. at_st g s t outer st d ld) v i lv l;
  }

  turned-circle : (v : ℕ) → v < g.vertices → IsCircle (next g) (clockwise (outs v) (ins v))
  turned-circle v lv = record {
    next = λ i l. sym (same_next (get_or (clockwise (outs v) (ins v)) i 0) ((ends-at v lv).own i (omega arith)).0) ∙ next-in_list v i lv l;
    around = λ i l. sym (same_next (get_or (clockwise (outs v) (ins v)) i 0) ((ends-at v lv).own i (omega arith)).0) ∙ next-at_end v i lv l;
  }

  -- the edges out of v and then those into it are the list of v, read on from one of its places
  pub turned : (v : ℕ) → v < g.vertices → IsCyclicShift (order g v) (clockwise (outs v) (ins v))
  turned v lv = rotation (next g) (order g v) (clockwise (outs v) (ins v)) (order-once v lv) (turned-once v lv) (order-circle v lv) (turned-circle v lv)

  normal_parts : IsPlanarSt (reordered g lists) s t (2 * first (outs s))
      × AreSides (reordered g lists) s t (2 * first (outs s)) outs ins low high left_path right_path
      × ((e : ℕ) → e < edges g → (left_face (reordered g lists) (2 * first (outs s)) e ≡ left_face g outer e)
      × (right_face (reordered g lists) (2 * first (outs s)) e ≡ right_face g outer e))
      × (faces (reordered g lists) ≡ faces g)
  normal_parts =
      let pos : 0 < length (outs s) = some_out g s t outer st outs ins low high left_path right_path sides s st.source.there (poles_apart g s t outer st) in
      let o : ℕ = 2 * first (outs s) in
      let h : (first (outs s) < edges g) × (tail g (first (outs s)) ≡ s) = out_there g s t outer st outs ins low high left_path right_path sides s 0 st.source.there pos in
      let o_in : o < darts g = omega (arith, h.0) in
      let same : face g o ≡ face g outer = (sides.outs_are s st.source.there).begins_s refl pos in (
        planar-re g s t outer st lists same_next o o_in same orders-re,
        sides-re g s t outer st lists same_next o o_in same outs ins low high left_path right_path sides,
        λ e l. (left_face-re g s t outer st lists same_next o o_in same e l, right_face-re g s t outer st lists same_next o o_in same e l),
        faces-re g s t outer st lists same_next,
      )

pub normal_law : NormalLaw
unfolding lists
normal_law g s t outer st outs ins low high left_path right_path sides = normal_parts g s t outer st outs ins low high left_path right_path sides

pub order_law : OrderLaw
order_law g s t outer x st of v lv = turned g s t outer st (outs x) (ins x) (low x) (high x) (left_path x) (right_path x) of.are v lv
