-- The lines of a polyline drawing keep their order from row to row, and meet only at common ends.
--   Stand, stand   what the line of an edge is at in a row: a vertex, or the edge itself
--   in_row         in each row a line is to the left of the line of an edge on its right, or they have a common vertex
--   rows, between, dots   where lines meet in a row, between two rows, and at dots
--   tracks_law     these together
use Rattle.std.proofs.Common.{ℕ, cond, eqb, ◌≡◌, ◌≢◌, ◌<◌, ◌≤◌, ◌+◌, ◌*◌, ◌⊎◌, inl, inr, refl, sym, ap, ◌∙◌, subst, arith}
use Rattle.std.proofs.lemmas.Bool.{cases_eq, eq-eqb, ne_eqb}
use Rattle.std.proofs.lemmas.Nat.{mul-le}
use Rattle.st_ids.specs.Walks.{Reaches}
use Rattle.st_ids.proofs.Public.{no_loop, reach_refl, reach_trans, reach_arc}
use Rattle.st_sides.specs.Sides.{SidesValue, edge_count, edge_tail, edge_head, face_left, face_right, left_of, right_of, primal, dual, IsSides}
use Rattle.st_sides.specs.Objects.{Object, vertex, edge, IsObject, bottom, top, left, right, LeftOf, before, after, leftward, rightward}
use Rattle.st_sides.proofs.Public.{dual_acyclic, from_source, to_sink, across_out, bottom_in, top_in, not_before_left, not_before_right, compared, same_object}
use Rattle.st_picture.proofs.Public.{reach_grows, reach_same, across_in}
use Rattle.draw_poly.specs.Tracks.{track, AreTracks, IsCommonVertex, TracksLaw}

module _ (g : SidesValue) (S : IsSides g) (y c p : ℕ → ℕ) (D : AreTracks g y c p) where
  -- what the line of an edge is at in a row
  pub record Stand (e j : ℕ) : Type 0 where
    pub object : Object
    pub is_object : IsObject g object
    pub from : c (left g object) ≤ track g y c p e j
    pub to : track g y c p e j < c (right g object)
    pub low : y (bottom g object) ≤ j
    pub high : j ≤ y (top g object)
    -- an edge has its ends in other rows
    pub kind : ((v : ℕ) × (object ≡ vertex v) × (y v ≡ j) × ((v ≡ edge_tail g e) ⊎ (v ≡ edge_head g e)) × (track g y c p e j ≡ p v)) ⊎ ((object ≡ edge e) × (y (edge_tail g e) < j) × (j < y (edge_head g e)))
    -- the left of the object leads to the left of e, and the right of e to its right, but at the poles
    pub span : (Reaches (dual g) (left g object) (face_left g e) × Reaches (dual g) (face_right g e) (right g object)) ⊎ ((object ≡ vertex g.source) ⊎ (object ≡ vertex g.sink))

  at_vertex : (e j v : ℕ) → v < g.vertices → y v ≡ j → (v ≡ edge_tail g e) ⊎ (v ≡ edge_head g e) → track g y c p e j ≡ p v → (v ≢ g.source → v ≢ g.sink → Reaches (dual g) (left g (vertex v)) (face_left g e) × Reaches (dual g) (face_right g e) (right g (vertex v))) → Stand e j
  at_vertex e j v i q k t s =
      let a : c (left_of g v) ≤ p v = D.from v i in
      let b : p v < c (right_of g v) = D.to v i in
      record {
        object = vertex v;
        is_object = i;
        from = omega arith;
        to = omega arith;
        low = omega arith;
        high = omega arith;
        kind = inl (v, refl, q, k, t);
        span = elim (cases_eq v g.source) [
          | inl z ↦ inr (inl (ap vertex z))
          | inr n ↦ elim (cases_eq v g.sink) [ inl z ↦ inr (inr (ap vertex z)) | inr n' ↦ inl (s n n') ]
        ];
      }

  stand : (e j : ℕ) → e < edge_count g → y (edge_tail g e) ≤ j → j ≤ y (edge_head g e) → Stand e j
  stand e j a lo hi = elim (cases_eq j (y (edge_tail g e))) [
    | inl q ↦ at_vertex e j (edge_tail g e) (S.tail_in e a) (sym q) (inl refl)
        (ap (λ z. cond z (p (edge_tail g e)) (cond (eqb j (y (edge_head g e))) (p (edge_head g e)) (c (face_left g e)))) (eq-eqb j (y (edge_tail g e)) q))
        (λ n n'. across_out g S (edge_tail g e) e (S.tail_in e a) n n' a refl)
    | inr d ↦
        let first : track g y c p e j ≡ cond (eqb j (y (edge_head g e))) (p (edge_head g e)) (c (face_left g e)) = ap (λ z. cond z (p (edge_tail g e)) (cond (eqb j (y (edge_head g e))) (p (edge_head g e)) (c (face_left g e)))) (ne_eqb j (y (edge_tail g e)) d) in
        elim (cases_eq j (y (edge_head g e))) [
          | inl q ↦ at_vertex e j (edge_head g e) (S.head_in e a) (sym q) (inr refl)
              (first ∙ ap (λ z. cond z (p (edge_head g e)) (c (face_left g e))) (eq-eqb j (y (edge_head g e)) q))
              (λ n n'. across_in g S (edge_head g e) e (S.head_in e a) n n' a refl)
          | inr d' ↦
              let t : track g y c p e j ≡ c (face_left g e) = first ∙ ap (λ z. cond z (p (edge_head g e)) (c (face_left g e))) (ne_eqb j (y (edge_head g e)) d') in
              let r : c (face_left g e) < c (face_right g e) = D.rightward e a in
              record {
                object = edge e;
                is_object = a;
                from = omega arith;
                to = omega arith;
                low = lo;
                high = hi;
                kind = inr (refl, omega arith, omega arith);
                span = inl (reach_refl refl, reach_refl refl);
              }
        ]
  ]

  -- objects in one row, one before the other, are one
  same_row : (e f j : ℕ) → (A : Stand e j) (B : Stand f j) → Reaches (primal g) (top g A.object) (bottom g B.object) → A.object ≡ B.object
  same_row e f j A B h =
      let a1 : j ≤ y (top g A.object) = A.high in
      let b1 : y (bottom g B.object) ≤ j = B.low in
      let q : top g A.object ≡ bottom g B.object = reach_same (primal g) y D.up (top g A.object) (bottom g B.object) h (omega arith) in
      let yq : y (top g A.object) ≡ y (bottom g B.object) = ap y q in
      elim A.kind [
        | inl k ↦ elim B.kind [
          | inl m ↦ k.1 ∙ ap vertex (sym (ap (top g) k.1) ∙ q ∙ ap (bottom g) m.1) ∙ sym m.1
          | inr m ↦ (let z : y (bottom g B.object) ≡ y (edge_tail g f) = ap (λ o. y (bottom g o)) m.0 in let w = m.1 in absurd (omega arith))
        ]
        | inr k ↦ (let z : y (top g A.object) ≡ y (edge_head g e) = ap (λ o. y (top g o)) k.0 in let w = k.2 in absurd (omega arith))
      ]

  -- one object under two lines is a common vertex
  common : (e f j : ℕ) → e ≢ f → (A : Stand e j) (B : Stand f j) → A.object ≡ B.object → IsCommonVertex g y e f j × (track g y c p e j ≡ track g y c p f j)
  common e f j d A B q = elim A.kind [
    | inl k ↦ elim B.kind [
      | inl m ↦
          let s : vertex k.0 ≡ vertex m.0 = sym k.1 ∙ q ∙ m.1 in
          let t : m.0 ≡ k.0 = cc s in
          (record { at = k.0; row = k.2; of_first = k.3; of_second = elim m.3 [ inl r ↦ inl (sym t ∙ r) | inr r ↦ inr (sym t ∙ r) ] }, k.4 ∙ ap p (sym t) ∙ sym m.4)
      | inr m ↦ (let s : vertex k.0 ≡ edge f = sym k.1 ∙ q ∙ m.0 in absurd (cc s))
    ]
    | inr k ↦ elim B.kind [
      | inl m ↦ (let s : edge e ≡ vertex m.0 = sym k.0 ∙ q ∙ m.1 in absurd (cc s))
      | inr m ↦ (let s : edge e ≡ edge f = sym k.0 ∙ q ∙ m.0 in absurd (d (cc s)))
    ]
  ]

  pole_before : (e f j : ℕ) (A : Stand e j) (B : Stand f j) → ((A.object ≡ vertex g.source) ⊎ (A.object ≡ vertex g.sink)) → LeftOf g B.object A.object ⊎ LeftOf g A.object B.object → ⊥
  pole_before e f j A B (inl q) h =
      let r : Reaches (primal g) (top g A.object) (bottom g B.object) = reach_trans (reach_refl (ap (top g) q)) (from_source g S (bottom g B.object) (bottom_in g S B.object B.is_object)) in
      elim h [ inl k ↦ not_before_right g S A.object B.object A.is_object B.is_object r k | inr k ↦ not_before_left g S A.object B.object A.is_object B.is_object r k ]
  pole_before e f j A B (inr q) h =
      let r : Reaches (primal g) (top g B.object) (bottom g A.object) = reach_trans (to_sink g S (top g B.object) (top_in g S B.object B.is_object)) (reach_refl (sym (ap (bottom g) q))) in
      elim h [ inl k ↦ not_before_left g S B.object A.object B.is_object A.is_object r k | inr k ↦ not_before_right g S B.object A.object B.is_object A.is_object r k ]

  -- in each row an edge's line is to the left of the line of an edge on its right, or they have a common vertex
  in_row : (e f j : ℕ) → e < edge_count g → f < edge_count g → e ≢ f → Reaches (dual g) (face_right g e) (face_left g f) → Stand e j → Stand f j → (IsCommonVertex g y e f j × (track g y c p e j ≡ track g y c p f j)) ⊎ (track g y c p e j < track g y c p f j)
  in_row e f j a b d h A B = elim (same_object A.object B.object) [
    | inl q ↦ inl (common e f j d A B q)
    | inr n ↦ elim (compared g S A.object B.object A.is_object B.is_object n) [
      | before k ↦ absurd (n (same_row e f j A B k))
      | after k ↦ absurd (n (sym (same_row f e j B A k)))
      | leftward k ↦
          let m : c (right g A.object) ≤ c (left g B.object) = reach_grows (dual g) c D.rightward (right g A.object) (left g B.object) k in
          let s = A.to in
          let t = B.from in
          inr (omega arith)
      | rightward k ↦ absurd (elim A.span [
        | inr z ↦ pole_before e f j A B z (inl k)
        | inl z ↦ elim B.span [
          | inr w ↦ pole_before f e j B A w (inr k)
          | inl w ↦ no_loop (dual_acyclic g S) f b (reach_trans w.1 (reach_trans k (reach_trans z.0 (reach_trans (reach_arc e a) h))))
        ]
      ])
    ]
  ]

  flip : (e f j : ℕ) → IsCommonVertex g y f e j → IsCommonVertex g y e f j
  flip e f j C = record { at = C.at; row = C.row; of_first = C.of_second; of_second = C.of_first }

  rows : (e f j : ℕ) → e < edge_count g → f < edge_count g → e ≢ f → y (edge_tail g e) ≤ j → j ≤ y (edge_head g e) → y (edge_tail g f) ≤ j → j ≤ y (edge_head g f) → track g y c p e j ≡ track g y c p f j → IsCommonVertex g y e f j
  rows e f j a b d l h l' h' q =
      let A = stand e j a l h in
      let B = stand f j b l' h' in
      elim (same_object A.object B.object) [
        | inl s ↦ (common e f j d A B s).0
        | inr n ↦ elim (compared g S A.object B.object A.is_object B.is_object n) [
          | before k ↦ absurd (n (same_row e f j A B k))
          | after k ↦ absurd (n (sym (same_row f e j B A k)))
          | leftward k ↦ (let m : c (right g A.object) ≤ c (left g B.object) = reach_grows (dual g) c D.rightward (right g A.object) (left g B.object) k in let s = A.to in let t = B.from in absurd (omega arith))
          | rightward k ↦ (let m : c (right g B.object) ≤ c (left g A.object) = reach_grows (dual g) c D.rightward (right g B.object) (left g A.object) k in let s = B.to in let t = A.from in absurd (omega arith))
        ]
      ]

  -- a common vertex in the row of a gap's lower side is the tail of both, and in that of its upper side the head
  lower : (e j m : ℕ) → y (edge_tail g e) ≤ j → j < y (edge_head g e) → y m ≡ j → (m ≡ edge_tail g e) ⊎ (m ≡ edge_head g e) → m ≡ edge_tail g e
  lower e j m l h q (inl r) = r
  lower e j m l h q (inr r) = let s = ap y r in absurd (omega arith)

  upper : (e j m : ℕ) → y (edge_tail g e) ≤ j → j < y (edge_head g e) → y m ≡ j + 1 → (m ≡ edge_tail g e) ⊎ (m ≡ edge_head g e) → m ≡ edge_head g e
  upper e j m l h q (inl r) = let s = ap y r in absurd (omega arith)
  upper e j m l h q (inr r) = r

  sum_less : (i k a a' b b' : ℕ) → 1 ≤ i → 1 ≤ k → a ≤ b → a' ≤ b' → (a < b) ⊎ (a' < b') → k * a + i * a' ≡ k * b + i * b' → ⊥
  sum_less i k a a' b b' l m s t (inl h) q =
      let u : k * (a + 1) ≤ k * b = mul-le k (a + 1) k b (omega arith) (omega arith) in
      let v : i * a' ≤ i * b' = mul-le i a' i b' (omega arith) t in
      omega arith
  sum_less i k a a' b b' l m s t (inr h) q =
      let u : k * a ≤ k * b = mul-le k a k b (omega arith) s in
      let v : i * (a' + 1) ≤ i * b' = mul-le i (a' + 1) i b' (omega arith) (omega arith) in
      omega arith

  between_left : (e f j i k : ℕ) → e < edge_count g → f < edge_count g → e ≢ f → y (edge_tail g e) ≤ j → j < y (edge_head g e) → y (edge_tail g f) ≤ j → j < y (edge_head g f) → 1 ≤ i → 1 ≤ k → Reaches (dual g) (face_right g e) (face_left g f) → k * track g y c p e j + i * track g y c p e (j + 1) ≡ k * track g y c p f j + i * track g y c p f (j + 1) → ⊥
  between_left e f j i k a b d l h l' h' pi pk r q =
      elim (in_row e f j a b d r (stand e j a l (omega arith)) (stand f j b l' (omega arith))) [
        | inr m ↦ elim (in_row e f (j + 1) a b d r (stand e (j + 1) a (omega arith) (omega arith)) (stand f (j + 1) b (omega arith) (omega arith))) [
          | inr m' ↦ sum_less i k (track g y c p e j) (track g y c p e (j + 1)) (track g y c p f j) (track g y c p f (j + 1)) pi pk (omega arith) (omega arith) (inl m) q
          | inl C ↦ (let t = C.1 in sum_less i k (track g y c p e j) (track g y c p e (j + 1)) (track g y c p f j) (track g y c p f (j + 1)) pi pk (omega arith) (omega arith) (inl m) q)
        ]
        | inl C ↦
            let s = C.1 in
            elim (in_row e f (j + 1) a b d r (stand e (j + 1) a (omega arith) (omega arith)) (stand f (j + 1) b (omega arith) (omega arith))) [
              | inr m' ↦ sum_less i k (track g y c p e j) (track g y c p e (j + 1)) (track g y c p f j) (track g y c p f (j + 1)) pi pk (omega arith) (omega arith) (inr m') q
              | inl C' ↦
                  let te : C.0.at ≡ edge_tail g e = lower e j C.0.at l h C.0.row C.0.of_first in
                  let tf : C.0.at ≡ edge_tail g f = lower f j C.0.at l' h' C.0.row C.0.of_second in
                  let he : C'.0.at ≡ edge_head g e = upper e j C'.0.at l h C'.0.row C'.0.of_first in
                  let hf : C'.0.at ≡ edge_head g f = upper f j C'.0.at l' h' C'.0.row C'.0.of_second in
                  let two : y (edge_tail g e) + 2 ≤ y (edge_head g e) = D.high e f a b d (sym te ∙ tf) (sym he ∙ hf) in
                  let yt : y (edge_tail g e) ≡ j = ap y (sym te) ∙ C.0.row in
                  let yh : y (edge_head g e) ≡ j + 1 = ap y (sym he) ∙ C'.0.row in
                  omega arith
            ]
      ]

  between : (e f j i k : ℕ) → e < edge_count g → f < edge_count g → e ≢ f → y (edge_tail g e) ≤ j → j < y (edge_head g e) → y (edge_tail g f) ≤ j → j < y (edge_head g f) → 1 ≤ i → 1 ≤ k → k * track g y c p e j + i * track g y c p e (j + 1) ≡ k * track g y c p f j + i * track g y c p f (j + 1) → ⊥
  between e f j i k a b d l h l' h' pi pk q = elim (compared g S (edge e) (edge f) a b (λ z. d (cc z))) [
    | before r ↦ (let m : y (edge_head g e) ≤ y (edge_tail g f) = reach_grows (primal g) y D.up (edge_head g e) (edge_tail g f) r in omega arith)
    | after r ↦ (let m : y (edge_head g f) ≤ y (edge_tail g e) = reach_grows (primal g) y D.up (edge_head g f) (edge_tail g e) r in omega arith)
    | leftward r ↦ between_left e f j i k a b d l h l' h' pi pk r q
    | rightward r ↦ between_left f e j i k b a (λ z. d (sym z)) l' h' l h pi pk r (sym q)
  ]

  -- a dot in a row of a line
  dots : (e v : ℕ) → e < edge_count g → v < g.vertices → y (edge_tail g e) ≤ y v → y v ≤ y (edge_head g e) → track g y c p e (y v) ≡ p v → (v ≡ edge_tail g e) ⊎ (v ≡ edge_head g e)
  dots e v a i l h q =
      let A = stand e (y v) a l h in
      elim A.kind [
        | inl k ↦ elim (cases_eq k.0 v) [
          | inl t ↦ elim k.3 [ inl r ↦ inl (sym t ∙ r) | inr r ↦ inr (sym t ∙ r) ]
          | inr n ↦ absurd (apart k.0 k.3 n k.2 (sym k.4 ∙ q))
        ]
        | inr k ↦ elim (compared g S (edge e) (vertex v) a i (λ z. cc z)) [
          | before r ↦ (let m : y (edge_head g e) ≤ y v = reach_grows (primal g) y D.up (edge_head g e) v r in let w = k.2 in absurd (omega arith))
          | after r ↦ (let m : y v ≤ y (edge_tail g e) = reach_grows (primal g) y D.up v (edge_tail g e) r in let w = k.1 in absurd (omega arith))
          | leftward r ↦
              let m : c (face_right g e) ≤ c (left_of g v) = reach_grows (dual g) c D.rightward (face_right g e) (left_of g v) r in
              let s : track g y c p e (y v) < c (face_right g e) = subst (λ o. track g y c p e (y v) < c (right g o)) k.0 A.to in
              let t = D.from v i in
              absurd (omega arith)
          | rightward r ↦
              let m : c (right_of g v) ≤ c (face_left g e) = reach_grows (dual g) c D.rightward (right_of g v) (face_left g e) r in
              let s : c (face_left g e) ≤ track g y c p e (y v) = subst (λ o. c (left g o) ≤ track g y c p e (y v)) k.0 A.from in
              let t = D.to v i in
              absurd (omega arith)
        ]
      ]
    where
      vertex_of : (w : ℕ) → (w ≡ edge_tail g e) ⊎ (w ≡ edge_head g e) → w < g.vertices
      vertex_of w (inl r) = subst (λ z. z < g.vertices) (sym r) (S.tail_in e a)
      vertex_of w (inr r) = subst (λ z. z < g.vertices) (sym r) (S.head_in e a)

      -- two dots are not at one place in a row
      apart : (w : ℕ) → (w ≡ edge_tail g e) ⊎ (w ≡ edge_head g e) → w ≢ v → y w ≡ y v → p w ≡ p v → ⊥
      apart w o n row place =
          let i' : w < g.vertices = vertex_of w o in
          elim (compared g S (vertex w) (vertex v) i' i (λ z. n (cc z))) [
            | before r ↦ n (reach_same (primal g) y D.up w v r (omega arith))
            | after r ↦ n (sym (reach_same (primal g) y D.up v w r (omega arith)))
            | leftward r ↦ (let m : c (right_of g w) ≤ c (left_of g v) = reach_grows (dual g) c D.rightward (right_of g w) (left_of g v) r in let s = D.to w i' in let t = D.from v i in omega arith)
            | rightward r ↦ (let m : c (right_of g v) ≤ c (left_of g w) = reach_grows (dual g) c D.rightward (right_of g v) (left_of g w) r in let s = D.to v i in let t = D.from w i' in omega arith)
          ]

pub tracks_law : (g : SidesValue) → IsSides g → TracksLaw g
tracks_law g S y c p D = record {
  rows = rows g S y c p D;
  between = between g S y c p D;
  dots = dots g S y c p D;
}
