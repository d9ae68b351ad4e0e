-- The numbers of the dual nodes.
use Rattle.std.proofs.Common.{◌≡◌, ◌≢◌, ℕ, zero, suc, ◌+◌, ◌-◌, ◌*◌, ◌<◌, ◌≤◌, Bool, true, false, not, eqb, ◌&&◌, refl, sym, ap, ◌∙◌, inl, inr, arith}
use Rattle.std.proofs.lemmas.Bool.{cases_lt, cases_eq, cases_order, cases_Bool, eq-eqb, ne_eqb, eqb-true, eqb-false, and_from, and_parts, not-true, cond-true, cond-false}
use Rattle.st_map.specs.Counting.{total, bit, count_below}
use Rattle.st_map.specs.Orbits.{SameOrbit}
use Rattle.st_map.specs.Embedded.{Embedded, edges, darts, phi, face, faces}
use Rattle.st_test.specs.Planar.{IsPlanarSt}
use Rattle.st_sides.specs.Conditions.{is_inner_face, node, left_face, right_face}
use Rattle.st_map.proofs.Public.{total-add, total-same, once, root-root, root-below, root-le, same-from_root}
use Rattle.st_sides.proofs.FaceRuns.{perm_st}

pub count-more : (a b : ℕ) (p : ℕ → Bool) → a ≤ b → count_below a p ≤ count_below b p
count-more a zero p l = let e : count_below a p ≡ count_below 0 p = ap (λ k. count_below k p) (let z : a ≡ 0 = omega arith in z) in omega arith
count-more a (suc b) p l = elim (cases_lt b a) [
  | inl m ↦ let e : count_below a p ≡ count_below (suc b) p = ap (λ k. count_below k p) (let z : a ≡ suc b = omega arith in z) in omega arith
  | inr m ↦ omega (arith, count-more a b p m)
]

-- a passing number is counted above it
pub count-over : (a b : ℕ) (p : ℕ → Bool) → a < b → p a ≡ true → count_below a p < count_below b p
count-over a b p l e = let one : bit (p a) ≡ 1 = ap bit e in omega (arith, count-more (suc a) b p l)

-- each count is met at a passing number
pub count-met : (n : ℕ) (p : ℕ → Bool) (j : ℕ) → j < count_below n p → (k : ℕ) × (k < n) × (p k ≡ true) × (count_below k p ≡ j)
count-met zero p j l = absurd (omega arith)
count-met (suc n) p j l = elim (cases_lt j (count_below n p)) [
  | inl m ↦ let r : (k : ℕ) × (k < n) × (p k ≡ true) × (count_below k p ≡ j) = count-met n p j m in (r.0, omega (arith, r.1), r.2, r.3)
  | inr m ↦ elim (cases_Bool (p n)) [
    | inl e ↦ let one : bit (p n) ≡ 1 = ap bit e in (n, omega arith, e, omega arith)
    | inr e ↦ let none : bit (p n) ≡ 0 = ap bit e in absurd (omega arith)
  ]
]

-- all roots but one
without : (b c : Bool) → (c ≡ true → b ≡ true) → bit (b && not c) + bit c ≡ bit b
without true true h = refl
without true false h = refl
without false true h = let e : false ≡ true = h refl in cc
without false false h = refl

module _ (g : Embedded) (s t outer : ℕ) (st : IsPlanarSt g s t outer) where
  pub face-below : (d : ℕ) → d < darts g → face g d < darts g
  unfolding face
  face-below d l = root-below (darts g) (phi g) (perm_st g s t outer st) d l

  face-le : (d : ℕ) → d < darts g → face g d ≤ d
  unfolding face
  face-le d l = root-le (darts g) (phi g) (perm_st g s t outer st) d d l (0, refl)

  pub face-face : (d : ℕ) → d < darts g → face g (face g d) ≡ face g d
  unfolding face
  face-face d l = root-root (darts g) (phi g) (perm_st g s t outer st) d l

  pub same_orbit : (d e : ℕ) → d < darts g → e < darts g → face g d ≡ face g e → SameOrbit (phi g) d e
  unfolding face
  same_orbit d e ld le h = same-from_root (darts g) (phi g) (perm_st g s t outer st) d e ld le h

  -- the first end of its face is the face
  pub first_is_face : (d : ℕ) → d < darts g → ((e : ℕ) → e < d → face g e ≢ face g d) → face g d ≡ d
  first_is_face d l h =
      let le : face g d ≤ d = face-le d l in
      elim (cases_lt (face g d) d) [
        | inl m ↦ absurd (h (face g d) m (face-face d l))
        | inr m ↦ omega arith
      ]

  pub inner_test : (d : ℕ) → d < darts g → face g d ≢ face g outer → is_inner_face g outer (face g d) ≡ true
  inner_test d l n = and_from (eqb (face g (face g d)) (face g d)) (not (eqb (face g outer) (face g d)))
      (eq-eqb (face g (face g d)) (face g d) (face-face d l)) (ap not (ne_eqb (face g outer) (face g d) (λ e. n (sym e))))

  pub inner_count : count_below (darts g) (is_inner_face g outer) + 1 ≡ faces g
  unfolding faces
  inner_count =
      let root : ℕ → Bool = λ d. eqb (face g d) d in
      let is : ℕ → Bool = λ d. eqb (face g outer) d in
      let a : total (darts g) (λ d. bit (is_inner_face g outer d) + bit (is d)) ≡ count_below (darts g) (is_inner_face g outer) + total (darts g) (λ d. bit (is d)) =
      total-add (darts g) (λ d. bit (is_inner_face g outer d)) (λ d. bit (is d)) in
      let b : total (darts g) (λ d. bit (is_inner_face g outer d) + bit (is d)) ≡ count_below (darts g) root =
      total-same (darts g) (λ d. bit (is_inner_face g outer d) + bit (is d)) (λ d. bit (root d)) (λ d l.
      without (root d) (is d) (λ e. let q : face g outer ≡ d = eqb-true (face g outer) d e in
      eq-eqb (face g d) d (ap (face g) (sym q) ∙ face-face outer st.outer_in ∙ q))) in
      let o : total (darts g) (λ d. bit (is d)) ≡ 1 = once (darts g) (face g outer) (face-below outer st.outer_in) in
      omega arith

  pub node-positive : (d : ℕ) → 0 < node g outer d
  unfolding node
  node-positive d = omega arith

  pub node-below : (d : ℕ) → d < darts g → face g d ≢ face g outer → node g outer d < faces g
  unfolding node
  node-below d l n =
      omega (arith, inner_count, count-over (face g d) (darts g) (is_inner_face g outer) (face-below d l) (inner_test d l n))

  pub node-apart : (d e : ℕ) → d < darts g → e < darts g → face g d ≢ face g outer → face g e ≢ face g outer → node g outer d ≡ node g outer e → face g d ≡ face g e
  unfolding node
  node-apart d e ld le nd ne h = elim (cases_order (face g d) (face g e)) [
    | inl q ↦ q
    | inr o ↦ elim o [
      | inl a ↦ absurd (omega (arith, count-over (face g d) (face g e) (is_inner_face g outer) a (inner_test d ld nd)))
      | inr a ↦ absurd (omega (arith, count-over (face g e) (face g d) (is_inner_face g outer) a (inner_test e le ne)))
    ]
  ]

  pub node-same : (d e : ℕ) → face g d ≡ face g e → node g outer d ≡ node g outer e
  unfolding node
  node-same d e h = ap (λ r. 1 + count_below r (is_inner_face g outer)) h

  -- each inner number is the node of a face
  pub node-met : (f : ℕ) → 0 < f → f < faces g → (d : ℕ) × (d < darts g) × (face g d ≢ face g outer) × (node g outer d ≡ f)
  unfolding node
  node-met f pos l =
      let r : (k : ℕ) × (k < darts g) × (is_inner_face g outer k ≡ true) × (count_below k (is_inner_face g outer) ≡ f - 1) =
      count-met (darts g) (is_inner_face g outer) (f - 1) (omega (arith, inner_count)) in
      let q : (eqb (face g r.0) r.0 ≡ true) × (not (eqb (face g outer) r.0) ≡ true) = and_parts (eqb (face g r.0) r.0) (not (eqb (face g outer) r.0)) r.2 in
      let root : face g r.0 ≡ r.0 = eqb-true (face g r.0) r.0 q.0 in
      let c : count_below (face g r.0) (is_inner_face g outer) ≡ count_below r.0 (is_inner_face g outer) = ap (λ k. count_below k (is_inner_face g outer)) root in
      (r.0, r.1, λ e. eqb-false (face g outer) r.0 (not-true (eqb (face g outer) r.0) q.1) (sym e ∙ root), omega (arith, r.3))

  pub faces-positive : 0 < faces g
  faces-positive = omega (arith, inner_count)

  pub left_face-outer : (e : ℕ) → face g (2 * e) ≡ face g outer → left_face g outer e ≡ 0
  unfolding left_face
  left_face-outer e h = cond-true (eqb (face g (2 * e)) (face g outer)) 0 (node g outer (2 * e)) (eq-eqb (face g (2 * e)) (face g outer) h)

  pub left_face-inner : (e : ℕ) → face g (2 * e) ≢ face g outer → left_face g outer e ≡ node g outer (2 * e)
  unfolding left_face
  left_face-inner e h = cond-false (eqb (face g (2 * e)) (face g outer)) 0 (node g outer (2 * e)) (ne_eqb (face g (2 * e)) (face g outer) h)

  pub right_face-outer : (e : ℕ) → face g (2 * e + 1) ≡ face g outer → right_face g outer e ≡ faces g
  unfolding right_face
  right_face-outer e h = cond-true (eqb (face g (2 * e + 1)) (face g outer)) (faces g) (node g outer (2 * e + 1)) (eq-eqb (face g (2 * e + 1)) (face g outer) h)

  pub right_face-inner : (e : ℕ) → face g (2 * e + 1) ≢ face g outer → right_face g outer e ≡ node g outer (2 * e + 1)
  unfolding right_face
  right_face-inner e h = cond-false (eqb (face g (2 * e + 1)) (face g outer)) (faces g) (node g outer (2 * e + 1)) (ne_eqb (face g (2 * e + 1)) (face g outer) h)

  -- the node on the left is 0 only where the face is the outer one, and an inner one only where it is that face
  pub left_face-0 : (e : ℕ) → left_face g outer e ≡ 0 → face g (2 * e) ≡ face g outer
  left_face-0 e h = elim (cases_eq (face g (2 * e)) (face g outer)) [
    | inl q ↦ q
    | inr n ↦ absurd (omega (arith, left_face-inner e n, node-positive (2 * e)))
  ]

  pub left_face-at : (e d : ℕ) → e < edges g → d < darts g → face g d ≢ face g outer → left_face g outer e ≡ node g outer d → face g (2 * e) ≡ face g d
  left_face-at e d le ld nd h = elim (cases_eq (face g (2 * e)) (face g outer)) [
    | inl q ↦ absurd (omega (arith, left_face-outer e q, node-positive d))
    | inr n ↦ node-apart (2 * e) d (omega arith) ld n nd (sym (left_face-inner e n) ∙ h)
  ]

  pub right_face-last : (e : ℕ) → e < edges g → right_face g outer e ≡ faces g → face g (2 * e + 1) ≡ face g outer
  right_face-last e le h = elim (cases_eq (face g (2 * e + 1)) (face g outer)) [
    | inl q ↦ q
    | inr n ↦ absurd (omega (arith, right_face-inner e n, node-below (2 * e + 1) (omega arith) n))
  ]

  pub right_face-at : (e d : ℕ) → e < edges g → d < darts g → face g d ≢ face g outer → right_face g outer e ≡ node g outer d → face g (2 * e + 1) ≡ face g d
  right_face-at e d le ld nd h = elim (cases_eq (face g (2 * e + 1)) (face g outer)) [
    | inl q ↦ absurd (omega (arith, right_face-outer e q, node-below d ld nd))
    | inr n ↦ node-apart (2 * e + 1) d (omega arith) ld n nd (sym (right_face-inner e n) ∙ h)
  ]

  pub left_face-below : (e : ℕ) → e < edges g → left_face g outer e < faces g
  left_face-below e le = elim (cases_eq (face g (2 * e)) (face g outer)) [
    | inl q ↦ omega (arith, left_face-outer e q, faces-positive)
    | inr n ↦ omega (arith, left_face-inner e n, node-below (2 * e) (omega arith) n)
  ]

  pub right_face-range : (e : ℕ) → e < edges g → (0 < right_face g outer e) × (right_face g outer e ≤ faces g)
  right_face-range e le = elim (cases_eq (face g (2 * e + 1)) (face g outer)) [
    | inl q ↦ omega (arith, right_face-outer e q, faces-positive)
    | inr n ↦ omega (arith, right_face-inner e n, node-below (2 * e + 1) (omega arith) n, node-positive (2 * e + 1))
  ]
