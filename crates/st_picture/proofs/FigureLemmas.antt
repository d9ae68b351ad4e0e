-- What the four ways in which two objects lie say of bars, lines and boxes.
--   reach_grows, reach_same   numbers that grow along arcs, and reaching
--   figures_law               where figures meet, and which box has a cell
use Rattle.std.proofs.Common.{ℕ, zero, suc, List, ◌≡◌, ◌≢◌, ◌<◌, ◌≤◌, ◌+◌, ◌⊎◌, inl, inr, refl, ap, arith}
use Rattle.std.proofs.lemmas.Bool.{cases_eq, cases_lt}
use Rattle.st_ids.specs.Lists.{In, here, there}
use Rattle.st_ids.specs.Walks.{Arcs, Walk, stay, step, Reaches}
use Rattle.st_sides.specs.Sides.{SidesValue, edge_count, edge_tail, edge_head, face_left, face_right, low, high, primal, dual, IsSides}
use Rattle.st_sides.specs.Objects.{Object, edge, IsObject, bottom, top, left, right, Before, LeftOf, before, after, leftward, rightward}
use Rattle.st_picture.specs.Growing.{GrowsUp, GrowsRight, InColumns, HasPoint, IsInBox, FiguresLaw}
use Rattle.st_ids.proofs.Public.{walk_from, walk_to, on_walk}
use Rattle.st_sides.proofs.Public.{compared}

-- numbers that grow along the arcs
walk_grows : (D : Arcs) (h : ℕ → ℕ) → ((e : ℕ) → e < D.count → h (D.from e) < h (D.to e)) → {u v : ℕ} {es : List ℕ} → Walk D u es v → (u ≡ v) ⊎ (h u < h v)
walk_grows D h up (stay q) = inl q
walk_grows D h up {v = v} (step {e = e} a t r) =
    let k : h (D.from e) < h (D.to e) = up e a in
    let q = ap h t in
    inr (elim (walk_grows D h up r) [
      | inl p ↦ (let m : h (D.to e) ≡ h v = ap h p in omega arith)
      | inr m ↦ omega arith
    ])

pub reach_grows : (D : Arcs) (h : ℕ → ℕ) → ((e : ℕ) → e < D.count → h (D.from e) < h (D.to e)) → (u v : ℕ) → Reaches D u v → h u ≤ h v
reach_grows D h up u v r = elim (walk_grows D h up r.walk) [ inl p ↦ (let m : h u ≡ h v = ap h p in omega arith) | inr m ↦ omega arith ]

pub reach_same : (D : Arcs) (h : ℕ → ℕ) → ((e : ℕ) → e < D.count → h (D.from e) < h (D.to e)) → (u v : ℕ) → Reaches D u v → h v ≤ h u → u ≡ v
reach_same D h up u v r l = elim (walk_grows D h up r.walk) [ inl p ↦ p | inr m ↦ absurd (omega arith) ]

module _ (g : SidesValue) (S : IsSides g) (y c : ℕ → ℕ) (up : GrowsUp g y) (rightward' : GrowsRight g c) where
  -- an object left of another lies in smaller columns
  left_columns : (lo hi : Object → ℕ) → InColumns g c lo hi → (o p : Object) → IsObject g o → IsObject g p → LeftOf g o p → hi o < lo p
  left_columns lo hi C o p i j h =
      let a : hi o < c (right g o) = C.before_right o i in
      let b : c (right g o) ≤ c (left g p) = reach_grows (dual g) c rightward' (right g o) (left g p) h in
      let d : c (left g p) ≤ lo p = C.after_left p j in
      omega arith

  below_meets : (lo hi : Object → ℕ) (o p : Object) (k j : ℕ) → Before g o p → HasPoint g y lo hi o k j → HasPoint g y lo hi p k j → top g o ≡ bottom g p
  below_meets lo hi o p k j h A B =
      let a : j ≤ y (top g o) = A.to_high in
      let b : y (bottom g p) ≤ j = B.from_low in
      reach_same (primal g) y up (top g o) (bottom g p) h (omega arith)

  meet : (lo hi : Object → ℕ) → InColumns g c lo hi → (o p : Object) → IsObject g o → IsObject g p → o ≢ p → (k j : ℕ) → HasPoint g y lo hi o k j → HasPoint g y lo hi p k j → (top g o ≡ bottom g p) ⊎ (top g p ≡ bottom g o)
  meet lo hi C o p i i' d k j A B = elim (compared g S o p i i' d) [
    | before h ↦ inl (below_meets lo hi o p k j h A B)
    | after h ↦ inr (below_meets lo hi p o k j h B A)
    | leftward h ↦ (let m : hi o < lo p = left_columns lo hi C o p i i' h in let a : k ≤ hi o = A.to_right in let b : lo p ≤ k = B.from_left in absurd (omega arith))
    | rightward h ↦ (let m : hi p < lo o = left_columns lo hi C p o i' i h in let a : k ≤ hi p = B.to_right in let b : lo o ≤ k = A.from_left in absurd (omega arith))
  ]

  -- ---- cells
  -- a walk across a row has an edge across it
  crossing : (j : ℕ) {u v : ℕ} {es : List ℕ} → Walk (primal g) u es v → y u ≤ j → j < y v → (e : ℕ) × In e es × (y (edge_tail g e) ≤ j) × (j < y (edge_head g e))
  crossing j (stay q) a b = let p = ap y q in absurd (omega arith)
  crossing j (step {e = e} i t r) a b = elim (cases_lt j (y (edge_head g e))) [
    | inl l ↦ (e, here refl, (let p = ap y t in omega arith), l)
    | inr l ↦ (let h = crossing j r l b in (h.0, there h.1, h.2, h.3))
  ]

  cover_from : (i j k e : ℕ) → i < c g.t_star → e < edge_count g → y (edge_tail g e) ≤ j → j < y (edge_head g e) → c (face_left g e) ≤ i → c g.t_star ≤ c (face_left g e) + k → (e : ℕ) × IsInBox g y c e i j
  cover_from i j zero e l a lo hi m n = absurd (omega arith)
  cover_from i j (suc k) e l a lo hi m n = elim (cases_lt i (c (face_right g e))) [
    | inl r ↦ (e, record { arc = a; from_left = m; to_right = r; from_low = lo; to_high = hi })
    | inr r ↦
        let f : ℕ = face_right g e in
        let inner = inner_of r in
        let le = S.right_within e a in
        let E = on_walk (S.left_path_walk (face_right g e) (S.right_after e a) le) ((S.left_path_are (face_right g e) (S.right_after e a) le).all e (a, refl)) in
        let b : y (low g (face_right g e)) ≤ y (edge_tail g e) = reach_grows (primal g) y up (low g (face_right g e)) (edge_tail g e) E.before in
        let d : y (edge_head g e) ≤ y (high g (face_right g e)) = reach_grows (primal g) y up (edge_head g e) (high g (face_right g e)) E.after in
        let X = crossing j (S.right_path_walk (face_right g e) inner) (omega arith) (omega arith) in
        let K = (S.right_path_are (face_right g e) inner).only X.0 X.1 in
        let q : c (face_left g X.0) ≡ c (face_right g e) = ap c K.1 in
        let s : c (face_left g e) < c (face_right g e) = rightward' e a in
        cover_from i j k X.0 l K.0 X.2 X.3 (omega arith) (omega arith)
  ]
    where
      inner_of : c (face_right g e) ≤ i → face_right g e < g.t_star
      inner_of r = elim (cases_lt (face_right g e) g.t_star) [
        | inl h ↦ h
        | inr h ↦
            let w : face_right g e ≤ g.t_star = S.right_within e a in
            let p : face_right g e ≡ g.t_star = omega arith in
            let q : c (face_right g e) ≡ c g.t_star = ap c p in
            absurd (omega arith)
      ]

  covered : (i j : ℕ) → c 0 ≤ i → i < c g.t_star → y g.source ≤ j → j < y g.sink → (e : ℕ) × IsInBox g y c e i j
  covered i j a b d f =
      let X = crossing j (walk_from S.low_s (walk_to S.high_s (S.right_path_walk 0 S.has_t))) d f in
      let K = (S.right_path_are 0 S.has_t).only X.0 X.1 in
      let q : c (face_left g X.0) ≡ c 0 = ap c K.1 in
      cover_from i j (c g.t_star) X.0 b K.0 X.2 X.3 (omega arith) (omega arith)

  once : (e e' i j : ℕ) → IsInBox g y c e i j → IsInBox g y c e' i j → e ≡ e'
  once e e' i j A B = elim (cases_eq e e') [
    | inl q ↦ q
    | inr d ↦ elim (compared g S (edge e) (edge e') A.arc B.arc (λ h. d (cc h))) [
      | before h ↦ (let k : y (edge_head g e) ≤ y (edge_tail g e') = reach_grows (primal g) y up (edge_head g e) (edge_tail g e') h in let m = A.to_high in let n = B.from_low in absurd (omega arith))
      | after h ↦ (let k : y (edge_head g e') ≤ y (edge_tail g e) = reach_grows (primal g) y up (edge_head g e') (edge_tail g e) h in let m = B.to_high in let n = A.from_low in absurd (omega arith))
      | leftward h ↦ (let k : c (face_right g e) ≤ c (face_left g e') = reach_grows (dual g) c rightward' (face_right g e) (face_left g e') h in let m = A.to_right in let n = B.from_left in absurd (omega arith))
      | rightward h ↦ (let k : c (face_right g e') ≤ c (face_left g e) = reach_grows (dual g) c rightward' (face_right g e') (face_left g e) h in let m = B.to_right in let n = A.from_left in absurd (omega arith))
    ]
  ]

pub figures_law : (g : SidesValue) → IsSides g → FiguresLaw g
figures_law g S = record {
  meet = λ y c lo hi up r C o p i j d k m A B. meet g S y c up r lo hi C o p i j d k m A B;
  covered = λ y c up r i j a b d f. covered g S y c up r i j a b d f;
  once = λ y c up r e e' i j A B. once g S y c up r e e' i j A B;
}
