-- Crossings and the columns of edges.
--   unique_head            one edge of a walk leads to a vertex
--   rank_in, rank_out      edges at a vertex lie as their columns
--   one_pass               a path that comes by an edge is the only one, and goes on by one edge
--   found, not_turned      whether a path that passes crosses
--   least_join, least_same   the least of two properties
--   cross_place, to_earlier, from_earlier   crossings of path p, by the places of its edges
use Rattle.std.proofs.Common.{ℕ, ℤ, suc, List, Option, Some, None, cond, nat_lt, ◌≡◌, ◌<◌, ◌≤◌, ◌+◌, ◌⊎◌, inl, inr, refl, sym, ap, ◌∙◌, subst, arith, length, get_or}
use Rattle.std.proofs.lemmas.Bool.{cases_eq, cases_lt, lt-ltb, le-ltb}
use Rattle.st_ids.specs.Lists.{In, Precedes}
use Rattle.st_ids.specs.Walks.{Arcs, Walk, IsAcyclic}
use Rattle.st_ids.proofs.Public.{Precedes-left, Precedes-right, no_loop, unique_tail, in_order, reach_refl, reach_trans}
use Rattle.st_sides.specs.Sides.{SidesValue, IsSides, edge_count, edge_tail, edge_head, face_left, face_right, ins, outs, dual}
use Rattle.st_sides.proofs.Public.{order_out, order_in, order_out_beside, order_in_beside, in_at, at_in}
use Rattle.st_picture.specs.Bars.{number_at}
use Rattle.st_picture.proofs.Public.{reach_grows}
use Rattle.draw_align.specs.declared.steps.Passage.{Passage}
use Rattle.draw_align.specs.Crossing.{IsRanked, rank_of, Turned, TurnedBy, IsLeast, EarlierBy, EarlierAt, lesser_of}
use Rattle.draw_align.specs.Faults.{AreThere, AreDisjoint}
use Rattle.draw_align.specs.Listed.{path_at, IsPath, Cross, IsFirstCrossing}
use Rattle.draw_align.specs.Steps.{PassesThrough}
use Rattle.draw_align.proofs.StepLemmas.{path_joined, next_place, one_path}

-- ---- walks
pub unique_head : {D : Arcs} → IsAcyclic D → {u v : ℕ} {es : List ℕ} → Walk D u es v → ((e : ℕ) → In e es → e < D.count) → (e e' : ℕ) → In e es → In e' es → D.to e ≡ D.to e' → e ≡ e'
unique_head {D} acyclic w arcs e e' i j q = elim (in_order w e e' i j) [
  | inl p ↦ p
  | inr h ↦ elim h [
    | inl r ↦ absurd (no_loop acyclic e' (arcs e' j) (reach_trans (reach_refl (sym q)) r))
    | inr r ↦ absurd (no_loop acyclic e (arcs e i) (reach_trans (reach_refl q) r))
  ]
]

-- ---- the least number
least_two : (P Q : ℕ → Type 0) (m n : ℕ) → IsLeast P (Some m) → IsLeast Q (Some n) → IsLeast (λ r. P r ⊎ Q r) (Some (cond (nat_lt n m) n m))
least_two P Q m n a b = elim (cases_lt n m) [
  | inl l ↦ subst (λ z. IsLeast (λ r. P r ⊎ Q r) (Some (cond z n m))) (sym (lt-ltb n m l)) (inr b.0, λ r h k. elim k [ inl p ↦ a.1 r (omega arith) p | inr q ↦ b.1 r h q ])
  | inr l ↦ subst (λ z. IsLeast (λ r. P r ⊎ Q r) (Some (cond z n m))) (sym (le-ltb n m l)) (inl a.0, λ r h k. elim k [ inl p ↦ a.1 r h p | inr q ↦ b.1 r (omega arith) q ])
]

pub least_join : (P Q : ℕ → Type 0) (a b : Option ℕ) → IsLeast P a → IsLeast Q b → IsLeast (λ r. P r ⊎ Q r) (lesser_of a b)
least_join P Q (Some m) (Some n) x y = least_two P Q m n x y
least_join P Q (Some m) None x y = (inl x.0, λ r h k. elim k [ inl p ↦ x.1 r h p | inr q ↦ y r q ])
least_join P Q None (Some n) x y = (inr y.0, λ r h k. elim k [ inl p ↦ x r p | inr q ↦ y.1 r h q ])
least_join P Q None None x y = λ r k. elim k [ inl p ↦ x r p | inr q ↦ y r q ]

pub least_same : (P Q : ℕ → Type 0) (a : Option ℕ) → ((r : ℕ) → P r → Q r) → ((r : ℕ) → Q r → P r) → IsLeast P a → IsLeast Q a
least_same P Q (Some m) to from x = (to m x.0, λ r h k. x.1 r h (from r k))
least_same P Q None to from x = λ r k. x r (from r k)

-- ---- columns at a vertex
module _ (g : SidesValue) (S : IsSides g) (c : List ℤ) (R : IsRanked g c) where
  pub rank_in : (v e e' : ℕ) → v < g.vertices → Precedes e e' (ins g v) → rank_of g c e < rank_of g c e'
  rank_in v e e' l o =
      let B = order_in_beside g S v e e' l o in
      let h : number_at c (face_right g e) ≤ number_at c (face_left g e') = reach_grows (dual g) (number_at c) R.rightward (face_right g e) (face_left g e') B.across in
      let k : number_at c (face_left g e) < number_at c (face_right g e) = R.rightward e ((S.ins_are v l).only e (Precedes-left (ins g v) e e' o)).0 in
      omega arith

  pub rank_out : (v e e' : ℕ) → v < g.vertices → Precedes e e' (outs g v) → rank_of g c e < rank_of g c e'
  rank_out v e e' l o =
      let B = order_out_beside g S v e e' l o in
      let h : number_at c (face_right g e) ≤ number_at c (face_left g e') = reach_grows (dual g) (number_at c) R.rightward (face_right g e) (face_left g e') B.across in
      let k : number_at c (face_left g e) < number_at c (face_right g e) = R.rightward e ((S.outs_are v l).only e (Precedes-left (outs g v) e e' o)).0 in
      omega arith

  pub in_by_rank : (v e e' : ℕ) → v < g.vertices → e < edge_count g → e' < edge_count g → edge_head g e ≡ v → edge_head g e' ≡ v → rank_of g c e < rank_of g c e' → Precedes e e' (ins g v)
  in_by_rank v e e' l a a' q q' h = elim (order_in g S v e e' l a a' q q') [
    | inl p ↦ (let k : rank_of g c e ≡ rank_of g c e' = ap (rank_of g c) p in absurd (omega arith))
    | inr m ↦ elim m [
      | inl o ↦ o
      | inr o ↦ (let k : rank_of g c e' < rank_of g c e = rank_in v e' e l o in absurd (omega arith))
    ]
  ]

  pub out_by_rank : (v e e' : ℕ) → v < g.vertices → e < edge_count g → e' < edge_count g → edge_tail g e ≡ v → edge_tail g e' ≡ v → rank_of g c e < rank_of g c e' → Precedes e e' (outs g v)
  out_by_rank v e e' l a a' q q' h = elim (order_out g S v e e' l a a' q q') [
    | inl p ↦ (let k : rank_of g c e ≡ rank_of g c e' = ap (rank_of g c) p in absurd (omega arith))
    | inr m ↦ elim m [
      | inl o ↦ o
      | inr o ↦ (let k : rank_of g c e' < rank_of g c e = rank_out v e' e l o in absurd (omega arith))
    ]
  ]

  module _ (ps : List (List ℕ)) (A : AreThere g ps) (n : ℕ) (within : n ≤ length ps) (D : AreDisjoint g ps n) where
    -- a path that comes by an edge is the only one, and goes on by one edge
    pub one_pass : (q r x y z : ℕ) → q < n → r < n → PassesThrough g ps q x y → PassesThrough g ps r x z → (q ≡ r) × (y ≡ z)
    one_pass q r x y z l m a b =
        let same : r ≡ q = one_path g ps n D r q x m l b.x_on a.x_on in
        (sym same, unique_tail S.acyclic (D q l).0.walk y z a.y_on (subst (λ w. In z (path_at ps w)) same b.y_on) (a.joined ∙ sym b.joined))

    pub found : (p x y x' : ℕ) (s : Passage) → p ≤ n → s.path < p → PassesThrough g ps s.path x' s.next.0 → Turned g c x y x' s.next.0 → IsLeast (EarlierBy g c ps p x y x') (Some s.path)
    found p x y x' s pn l P t = (
      (l, record { y' = s.next.0; passes = P; turned = t }),
      λ r m B. (let b : r < p = B.0 in let k : s.path ≡ r = (one_pass s.path r x' s.next.0 B.1.y' (omega arith) (omega arith) P B.1.passes).0 in omega arith),
    )

    pub not_turned : (p x y x' : ℕ) (s : Passage) → p ≤ n → s.path < p → PassesThrough g ps s.path x' s.next.0 → (Turned g c x y x' s.next.0 → ⊥) → (r : ℕ) → EarlierBy g c ps p x y x' r → ⊥
    not_turned p x y x' s pn l P other r B =
        let b : r < p = B.0 in
        other (subst (λ z. Turned g c x y x' z) (sym (one_pass s.path r x' s.next.0 B.1.y' (omega arith) (omega arith) P B.1.passes).1) B.1.turned)

    -- ---- the crossings of path p
    module _ (p : ℕ) (there : p < n) where
      W : IsPath g (path_at ps p)
      W = (D p there).0

      edge_there : (e : ℕ) → In e (path_at ps p) → e < edge_count g
      edge_there e i = A p e (omega arith) i

      head_there : (i : ℕ) → i < length (path_at ps p) → edge_head g (get_or (path_at ps p) i 0) < g.vertices
      head_there i l = S.head_in (get_or (path_at ps p) i 0) (edge_there (get_or (path_at ps p) i 0) (in_at (get_or (path_at ps p) i 0) (path_at ps p) i l refl))

      pub to_earlier : (q i : ℕ) → q < p → i < length (path_at ps p) → Cross g (path_at ps p) (path_at ps q) (edge_head g (get_or (path_at ps p) i 0))
          → (suc i < length (path_at ps p)) × EarlierAt g c ps p (get_or (path_at ps p) i 0) (get_or (path_at ps p) (suc i) 0) (length (ins g (edge_head g (get_or (path_at ps p) i 0)))) q
      to_earlier q i l m C = elim C [
        | inl K ↦ go K.x K.y K.x' K.y' K.x_on K.y_on K.x'_on K.y'_on (Precedes-left (ins g v) K.x K.x' K.in_order) (Precedes-right (outs g v) K.y' K.y K.out_order)
            (Precedes-right (ins g v) K.x K.x' K.in_order) (Precedes-left (outs g v) K.y' K.y K.out_order)
            (inl (rank_in v K.x K.x' lv K.in_order, rank_out v K.y' K.y lv K.out_order))
        | inr K ↦ go K.x' K.y' K.x K.y K.x'_on K.y'_on K.x_on K.y_on (Precedes-right (ins g v) K.x K.x' K.in_order) (Precedes-left (outs g v) K.y' K.y K.out_order)
            (Precedes-left (ins g v) K.x K.x' K.in_order) (Precedes-right (outs g v) K.y' K.y K.out_order)
            (inr (rank_in v K.x K.x' lv K.in_order, rank_out v K.y' K.y lv K.out_order))
      ]
        where
          v : ℕ
          v = edge_head g (get_or (path_at ps p) i 0)

          lv : v < g.vertices
          lv = head_there i m

          go : (x y x' y' : ℕ) → In x (path_at ps p) → In y (path_at ps p) → In x' (path_at ps q) → In y' (path_at ps q) → In x (ins g v) → In y (outs g v) → In x' (ins g v) → In y' (outs g v)
              → Turned g c x y x' y' → (suc i < length (path_at ps p)) × EarlierAt g c ps p (get_or (path_at ps p) i 0) (get_or (path_at ps p) (suc i) 0) (length (ins g v)) q
          go x y x' y' a b a' b' ix iy ix' iy' t =
              let hx = ((S.ins_are v lv).only x ix).1 in
              let ty = ((S.outs_are v lv).only y iy).1 in
              let here_i : In (get_or (path_at ps p) i 0) (path_at ps p) = in_at (get_or (path_at ps p) i 0) (path_at ps p) i m refl in
              let xq : x ≡ get_or (path_at ps p) i 0 = unique_head S.acyclic W.walk edge_there x (get_or (path_at ps p) i 0) a here_i hx in
              let n = next_place S.acyclic W.walk i y m b ty in
              let at = at_in ix' in (
                n.0,
                record {
                  place = at.0;
                  there = at.1;
                  by = (
                    l,
                    subst (λ z. TurnedBy g c ps q (get_or (path_at ps p) i 0) (get_or (path_at ps p) (suc i) 0) z) (sym at.2) (record {
                      y' = y';
                      passes = record { x_on = a'; y_on = b'; joined = ((S.outs_are v lv).only y' iy').1 ∙ sym ((S.ins_are v lv).only x' ix').1 };
                      turned = subst (λ z. Turned g c z (get_or (path_at ps p) (suc i) 0) x' y') xq (subst (λ z. Turned g c x z x' y') (sym n.1) t);
                    }),
                  );
                },
              )

      pub from_earlier : (q i k : ℕ) → suc i < length (path_at ps p) → k ≤ length (ins g (edge_head g (get_or (path_at ps p) i 0)))
          → EarlierAt g c ps p (get_or (path_at ps p) i 0) (get_or (path_at ps p) (suc i) 0) k q → Cross g (path_at ps p) (path_at ps q) (edge_head g (get_or (path_at ps p) i 0))
      from_earlier q i k m kl E = elim E.by.1.turned [
        | inl t ↦ inl (record {
          x = x;
          y = y;
          x' = x';
          y' = y';
          x_on = x_on;
          y_on = y_on;
          x'_on = E.by.1.passes.x_on;
          y'_on = E.by.1.passes.y_on;
          in_order = in_by_rank v x x' lv (edge_there x x_on) x'_there refl x'_at t.0;
          out_order = out_by_rank v y' y lv y'_there (edge_there y y_on) y'_at y_at t.1;
        })
        | inr t ↦ inr (record {
          x = x';
          y = y';
          x' = x;
          y' = y;
          x_on = E.by.1.passes.x_on;
          y_on = E.by.1.passes.y_on;
          x'_on = x_on;
          y'_on = y_on;
          in_order = in_by_rank v x' x lv x'_there (edge_there x x_on) x'_at refl t.0;
          out_order = out_by_rank v y y' lv (edge_there y y_on) y'_there y_at y'_at t.1;
        })
      ]
        where
          x : ℕ
          x = get_or (path_at ps p) i 0

          y : ℕ
          y = get_or (path_at ps p) (suc i) 0

          v : ℕ
          v = edge_head g x

          x' : ℕ
          x' = get_or (ins g v) E.place 0

          y' : ℕ
          y' = E.by.1.y'

          x_on : In x (path_at ps p)
          x_on = in_at x (path_at ps p) i (omega arith) refl

          y_on : In y (path_at ps p)
          y_on = in_at y (path_at ps p) (suc i) m refl

          lv : v < g.vertices
          lv = head_there i (omega arith)

          x'_is : (x' < edge_count g) × (edge_head g x' ≡ v)
          x'_is = (S.ins_are v lv).only x' (in_at x' (ins g v) E.place (let h : E.place < k = E.there in omega arith) refl)

          x'_there : x' < edge_count g
          x'_there = x'_is.0

          x'_at : edge_head g x' ≡ v
          x'_at = x'_is.1

          y'_there : y' < edge_count g
          y'_there = (let h : q < p = E.by.0 in A q y' (omega arith) E.by.1.passes.y_on)

          y'_at : edge_tail g y' ≡ v
          y'_at = E.by.1.passes.joined ∙ x'_at

          y_at : edge_tail g y ≡ v
          y_at = path_joined g (path_at ps p) W i m

      pub cross_place : (q v : ℕ) → v < g.vertices → Cross g (path_at ps p) (path_at ps q) v → (i : ℕ) × (i < length (path_at ps p)) × (edge_head g (get_or (path_at ps p) i 0) ≡ v)
      cross_place q v lv C = elim C [
        | inl K ↦ (let h = at_in K.x_on in (h.0, h.1, ap (edge_head g) h.2 ∙ ((S.ins_are v lv).only K.x (Precedes-left (ins g v) K.x K.x' K.in_order)).1))
        | inr K ↦ (let h = at_in K.x'_on in (h.0, h.1, ap (edge_head g) h.2 ∙ ((S.ins_are v lv).only K.x' (Precedes-right (ins g v) K.x K.x' K.in_order)).1))
      ]

      -- what is found where the edges at places i and i + 1 meet
      pub met : (i x y : ℕ) (r : Option ℕ) → get_or (path_at ps p) i 0 ≡ x → get_or (path_at ps p) (suc i) 0 ≡ y → suc i < length (path_at ps p)
          → IsLeast (EarlierAt g c ps p x y (length (ins g (edge_head g x)))) r → IsLeast (λ q. (q < p) × Cross g (path_at ps p) (path_at ps q) (edge_head g (get_or (path_at ps p) i 0))) r
      met i x y r a b m h = least_same (EarlierAt g c ps p (get_or (path_at ps p) i 0) (get_or (path_at ps p) (suc i) 0) (length (ins g (edge_head g (get_or (path_at ps p) i 0)))))
          (λ q. (q < p) × Cross g (path_at ps p) (path_at ps q) (edge_head g (get_or (path_at ps p) i 0))) r
          (λ q E. (E.by.0, from_earlier q i (length (ins g (edge_head g (get_or (path_at ps p) i 0)))) m (omega arith) E))
          (λ q k. (to_earlier q i k.0 (omega arith) k.1).1)
          (subst (λ z. IsLeast (EarlierAt g c ps p z (get_or (path_at ps p) (suc i) 0) (length (ins g (edge_head g z)))) r) (sym a)
          (subst (λ z. IsLeast (EarlierAt g c ps p x z (length (ins g (edge_head g x)))) r) (sym b) h))

      pub first_met : (i v q : ℕ) → suc i < length (path_at ps p) → edge_head g (get_or (path_at ps p) i 0) ≡ v
          → IsLeast (λ q. (q < p) × Cross g (path_at ps p) (path_at ps q) (edge_head g (get_or (path_at ps p) i 0))) (Some q)
          → ((j r : ℕ) → j < i → r < p → Cross g (path_at ps p) (path_at ps r) (edge_head g (get_or (path_at ps p) j 0)) → ⊥) → IsFirstCrossing g ps p q v
      first_met i v q m a h none = record {
        place = i;
        there = omega arith;
        at = a;
        earlier = h.0.0;
        cross = subst (λ z. Cross g (path_at ps p) (path_at ps q) z) a h.0.1;
        least = λ r l C. h.1 r l ((let k : q < p = h.0.0 in omega arith), subst (λ z. Cross g (path_at ps p) (path_at ps r) z) (sym a) C);
        none = none;
      }

      pub none_met : (i x y : ℕ) (r : Option ℕ) → r ≡ None → get_or (path_at ps p) i 0 ≡ x → get_or (path_at ps p) (suc i) 0 ≡ y → suc i < length (path_at ps p)
          → IsLeast (EarlierAt g c ps p x y (length (ins g (edge_head g x)))) r → (q : ℕ) → q < p → Cross g (path_at ps p) (path_at ps q) (edge_head g (get_or (path_at ps p) i 0)) → ⊥
      none_met i x y r n a b m h q l C =
          subst (λ z. IsLeast (λ q. (q < p) × Cross g (path_at ps p) (path_at ps q) (edge_head g (get_or (path_at ps p) i 0))) z) n (met i x y r a b m h) q (l, C)

      pub none_at_all : ((i r : ℕ) → suc i < length (path_at ps p) → r < p → Cross g (path_at ps p) (path_at ps r) (edge_head g (get_or (path_at ps p) i 0)) → ⊥)
          → (q v : ℕ) → q < p → v < g.vertices → Cross g (path_at ps p) (path_at ps q) v → ⊥
      none_at_all none q v l lv C =
          let h = cross_place q v lv C in
          let K = subst (λ z. Cross g (path_at ps p) (path_at ps q) z) (sym h.2) C in
          none h.0 q (to_earlier q h.0 l h.1 K).0 l K

-- one edge into the head of x more
pub at_more : (g : SidesValue) (c : List ℤ) (ps : List (List ℕ)) (p x y k z : ℕ) (a b : Option ℕ) → get_or (ins g (edge_head g x)) k 0 ≡ z
    → IsLeast (EarlierAt g c ps p x y k) a → IsLeast (EarlierBy g c ps p x y z) b → IsLeast (EarlierAt g c ps p x y (k + 1)) (lesser_of a b)
at_more g c ps p x y k z a b q A B = least_same (λ r. EarlierAt g c ps p x y k r ⊎ EarlierBy g c ps p x y z r) (EarlierAt g c ps p x y (k + 1)) (lesser_of a b)
    (λ r h. elim h [
      | inl E ↦ record { place = E.place; there = (let l : E.place < k = E.there in omega arith); by = E.by }
      | inr F ↦ record { place = k; there = omega arith; by = subst (λ w. EarlierBy g c ps p x y w r) (sym q) F }
    ])
    (λ r E. elim (cases_eq E.place k) [
      | inl e ↦ inr (subst (λ w. EarlierBy g c ps p x y w r) (ap (λ w. get_or (ins g (edge_head g x)) w 0) e ∙ q) E.by)
      | inr d ↦ inl (record { place = E.place; there = (let l : E.place < k + 1 = E.there in omega arith); by = E.by })
    ])
    (least_join (EarlierAt g c ps p x y k) (EarlierBy g c ps p x y z) a b A B)
