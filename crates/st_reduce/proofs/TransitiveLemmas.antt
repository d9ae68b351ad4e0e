-- An edge is transitive exactly where it is a whole path of an inner face.
use Rattle.std.proofs.Common.{ℕ, List, [], ◌∷◌, ◌≡◌, ◌≢◌, ◌<◌, ◌≤◌, ◌⊎◌, inl, inr, refl, sym, ap, ◌∙◌, subst, arith}
use Rattle.st_ids.specs.Lists.{In, here, there}
use Rattle.st_ids.specs.Walks.{Walk, stay, step, Reaches}
use Rattle.st_sides.specs.Sides.{SidesValue, edge_count, edge_tail, edge_head, face_left, face_right, ins, low, high, left_path, right_path, left_of, right_of, primal, dual, IsInner, MeetsLow, MeetsHigh, IsSides}
use Rattle.st_sides.specs.Objects.{vertex, edge, before, after, leftward, rightward}
use Rattle.st_reduce.specs.Transitive.{IsTransitive, IsOneSide, TransitiveLaw}
use Rattle.st_ids.proofs.Public.{not_in_nil, In-cases, in_subst, walk_from, walk_to, on_walk, no_loop, unique_tail, reach_refl, reach_trans, reach_arc}
use Rattle.st_sides.proofs.Public.{Beside, beside_out, beside_in, from_first, to_last, dual_acyclic, across_out, compared}

module _ (g : SidesValue) (S : IsSides g) where
  pub across_in : (v e : ℕ) → v < g.vertices → v ≢ g.source → v ≢ g.sink → e < edge_count g → edge_head g e ≡ v → Reaches (dual g) (left_of g v) (face_left g e) × Reaches (dual g) (face_right g e) (right_of g v)
  across_in v e i n n' a t =
      let k = S.ins_are v i in
      let in_range : (d : ℕ) → In d (ins g v) → d < edge_count g = λ d j. (k.only d j).0 in (
        from_first g (MeetsHigh g v) (λ d d' m. m.same) (left_of g v) (ins g v) in_range (S.ins_meet v i) (S.left_in v i n n') e (k.all e (a, t)),
        to_last g (MeetsHigh g v) (λ d d' m. m.same) (right_of g v) (ins g v) in_range (S.ins_meet v i) (S.right_in v i n n') e (k.all e (a, t)),
      )

  -- how an edge lies to an inner vertex of a walk between its ends
  beside_vertex : (e m x y : ℕ) → e < edge_count g → x < edge_count g → y < edge_count g → edge_head g x ≡ m → edge_tail g y ≡ m → Reaches (primal g) (edge_tail g e) (edge_tail g x) → Reaches (primal g) (edge_head g y) (edge_head g e) → Reaches (dual g) (face_right g e) (left_of g m) ⊎ Reaches (dual g) (right_of g m) (face_left g e)
  beside_vertex e m x y a b c q r lo hi =
      elim (compared g S (edge e) (vertex m) a (subst (λ z. z < g.vertices) q (S.head_in x b)) (λ h. cc h)) [
        | before h ↦ absurd (no_loop S.acyclic y c (reach_trans hi (reach_trans h (reach_refl (sym r)))))
        | after h ↦ absurd (no_loop S.acyclic x b (reach_trans (reach_refl q) (reach_trans h lo)))
        | leftward h ↦ inl h
        | rightward h ↦ inr h
      ]

  -- a walk between the ends of e that begins to the right of e ends there, and likewise on the left
  module _ (e : ℕ) (a : e < edge_count g) where
    stays_right : (x : ℕ) (u v : ℕ) (es : List ℕ) → x < edge_count g → edge_head g x ≡ u → Reaches (primal g) (edge_tail g e) (edge_tail g x) → Reaches (dual g) (face_right g e) (face_left g x) → v ≡ edge_head g e → Walk (primal g) u es v → (d : ℕ) × In d (x ∷ es) × (edge_head g d ≡ edge_head g e) × Reaches (dual g) (face_right g e) (face_left g d)
    stays_right x u v es b q lo r p (stay k) = (x, here refl, q ∙ k ∙ p, r)
    stays_right x u v es b q lo r p (step {e = y} {es = ys} c t w) =
        let i : u < g.vertices = subst (λ z. z < g.vertices) q (S.head_in x b) in
        let n : u ≢ g.source = λ z. S.source_first x b (q ∙ z) in
        let n' : u ≢ g.sink = λ z. S.sink_last y c (t ∙ z) in
        let hi : Reaches (primal g) (edge_head g y) (edge_head g e) = reach_trans (record { way = ys; walk = w }) (reach_refl p) in
        let next : Reaches (dual g) (face_right g e) (face_left g y) = elim (beside_vertex e u x y a b c q t lo hi) [
          | inl h ↦ reach_trans h (across_out g S u y i n n' c t).0
          | inr h ↦ absurd (no_loop (dual_acyclic g S) x b (reach_trans (across_in u x i n n' b q).1 (reach_trans h (reach_trans (reach_arc e a) r))))
        ] in
        let k = stays_right y (edge_head g y) v ys c refl (reach_trans lo (reach_trans (reach_arc x b) (reach_refl (q ∙ sym t)))) next p w in
        (k.0, there k.1, k.2, k.3)

    stays_left : (x : ℕ) (u v : ℕ) (es : List ℕ) → x < edge_count g → edge_head g x ≡ u → Reaches (primal g) (edge_tail g e) (edge_tail g x) → Reaches (dual g) (face_right g x) (face_left g e) → v ≡ edge_head g e → Walk (primal g) u es v → (d : ℕ) × In d (x ∷ es) × (edge_head g d ≡ edge_head g e) × Reaches (dual g) (face_right g d) (face_left g e)
    stays_left x u v es b q lo r p (stay k) = (x, here refl, q ∙ k ∙ p, r)
    stays_left x u v es b q lo r p (step {e = y} {es = ys} c t w) =
        let i : u < g.vertices = subst (λ z. z < g.vertices) q (S.head_in x b) in
        let n : u ≢ g.source = λ z. S.source_first x b (q ∙ z) in
        let n' : u ≢ g.sink = λ z. S.sink_last y c (t ∙ z) in
        let hi : Reaches (primal g) (edge_head g y) (edge_head g e) = reach_trans (record { way = ys; walk = w }) (reach_refl p) in
        let next : Reaches (dual g) (face_right g y) (face_left g e) = elim (beside_vertex e u x y a b c q t lo hi) [
          | inr h ↦ reach_trans (across_out g S u y i n n' c t).1 h
          | inl h ↦ absurd (no_loop (dual_acyclic g S) x b (reach_trans r (reach_trans (reach_arc e a) (reach_trans h (across_in u x i n n' b q).0))))
        ] in
        let k = stays_left y (edge_head g y) v ys c refl (reach_trans lo (reach_trans (reach_arc x b) (reach_refl (q ∙ sym t)))) next p w in
        (k.0, there k.1, k.2, k.3)

    -- a path of a face that begins with e and where e comes up to the face's high vertex is e alone
    alone : (f : ℕ) (P : List ℕ) → Walk (primal g) (low g f) P (high g f) → In e P → edge_tail g e ≡ low g f → edge_head g e ≡ high g f → P ≡ e ∷ []
    alone f P (stay k) i q r = absurd (not_in_nil i)
    alone f P (step {e = x} {es = xs} c t w) i q r =
        let p : x ≡ e = unique_tail S.acyclic (step c t w) x e (here refl) i (t ∙ sym q) in
        go xs w p
      where
        go : (xs : List ℕ) → Walk (primal g) (edge_head g x) xs (high g f) → x ≡ e → (x ∷ xs) ≡ e ∷ []
        go xs (stay k) p = ap (λ z. z ∷ []) p
        go xs (step {e = y} {es = ys} d m w) p = absurd (S.acyclic (edge_head g x) y ys (walk_to (sym r ∙ ap (edge_head g) (sym p)) (step d m w)))

    right_case : (es : List ℕ) (x : ℕ) → x < edge_count g → edge_tail g x ≡ edge_tail g e → (In e (x ∷ es) → ⊥) → Walk (primal g) (edge_head g x) es (edge_head g e) → Beside g (MeetsLow g (edge_tail g e)) e x → IsOneSide g e
    right_case es x b t out w B =
        let inner = B.meets.inner in
        let le : face_right g e ≤ g.t_star = S.right_within e a in
        let k = S.left_path_are (face_right g e) inner.not_s le in
        let d = stays_right x (edge_head g x) (edge_head g e) es b refl (reach_refl (sym t)) B.across refl w in
        record {
          face = face_right g e;
          inner = inner;
          side = inl (alone (face_right g e) (left_path g (face_right g e)) (S.left_path_walk (face_right g e) inner.not_s le) (k.all e (a, refl)) (sym B.meets.at)
              (elim (beside_in g S d.0 e (arc_of d.0 d.1) a d.2) [
                | inl q ↦ absurd (out (in_subst q d.1))
                | inr h ↦ elim h [
                  | inl C ↦ absurd (no_loop (dual_acyclic g S) d.0 (arc_of d.0 d.1) (reach_trans C.across (reach_trans (reach_arc e a) d.3)))
                  | inr C ↦ sym d.2 ∙ sym C.meets.at
                ]
              ]));
        }
      where
        arc_of : (d : ℕ) → In d (x ∷ es) → d < edge_count g
        arc_of d i = elim (In-cases i) [ inl q ↦ subst (λ z. z < edge_count g) (sym q) b | inr j ↦ (on_walk w j).arc ]

    left_case : (es : List ℕ) (x : ℕ) → x < edge_count g → edge_tail g x ≡ edge_tail g e → (In e (x ∷ es) → ⊥) → Walk (primal g) (edge_head g x) es (edge_head g e) → Beside g (MeetsLow g (edge_tail g e)) x e → IsOneSide g e
    left_case es x b t out w B =
        let same = B.met.same in
        let inner : IsInner g (face_left g e) = subst (IsInner g) same B.met.inner in
        let k = S.right_path_are (face_left g e) inner.not_t in
        let d = stays_left x (edge_head g x) (edge_head g e) es b refl (reach_refl (sym t)) B.across refl w in
        record {
          face = face_left g e;
          inner = inner;
          side = inr (alone (face_left g e) (right_path g (face_left g e)) (S.right_path_walk (face_left g e) inner.not_t) (k.all e (a, refl)) (sym B.met.at ∙ ap (low g) same)
              (elim (beside_in g S d.0 e (arc_of d.0 d.1) a d.2) [
                | inl q ↦ absurd (out (in_subst q d.1))
                | inr h ↦ elim h [
                  | inl C ↦ sym d.2 ∙ sym C.met.at ∙ ap (high g) C.met.same
                  | inr C ↦ absurd (no_loop (dual_acyclic g S) d.0 (arc_of d.0 d.1) (reach_trans d.3 (reach_trans (reach_arc e a) C.across)))
                ]
              ]));
        }
      where
        arc_of : (d : ℕ) → In d (x ∷ es) → d < edge_count g
        arc_of d i = elim (In-cases i) [ inl q ↦ subst (λ z. z < edge_count g) (sym q) b | inr j ↦ (on_walk w j).arc ]

    one_side : IsTransitive (primal g) e → IsOneSide g e
    one_side T = go T.way T.walk T.without
      where
        go : (es : List ℕ) → Walk (primal g) (edge_tail g e) es (edge_head g e) → (In e es → ⊥) → IsOneSide g e
        go es (stay q) out = absurd (no_loop S.acyclic e a (reach_refl (sym q)))
        go es (step {e = x} {es = xs} b t w) out = elim (beside_out g S e x a b (sym t)) [
          | inl q ↦ absurd (out (here q))
          | inr h ↦ elim h [
            | inl B ↦ right_case xs x b t out w B
            | inr B ↦ left_case xs x b t out w B
          ]
        ]

    -- no edge has one face on both sides
    two_faces : face_left g e ≢ face_right g e
    two_faces q = no_loop (dual_acyclic g S) e a (reach_refl (sym q))

    ends_of : {u v : ℕ} → Walk (primal g) u (e ∷ []) v → (edge_tail g e ≡ u) × (edge_head g e ≡ v)
    ends_of (step c t (stay q)) = (t, q)

    transitive : IsOneSide g e → IsTransitive (primal g) e
    transitive T = elim T.side [
      | inl q ↦
          let ends = ends_of (subst (λ z. Walk (primal g) (low g T.face) z (high g T.face)) q (S.left_path_walk T.face T.inner.not_s le)) in
          record {
            way = right_path g T.face;
            walk = walk_from (sym ends.0) (walk_to (sym ends.1) (S.right_path_walk T.face T.inner.not_t));
            without = λ i. two_faces (((S.right_path_are T.face T.inner.not_t).only e i).1 ∙ sym ((S.left_path_are T.face T.inner.not_s le).only e (subst (λ z. In e z) (sym q) (here refl))).1);
          }
      | inr q ↦
          let ends = ends_of (subst (λ z. Walk (primal g) (low g T.face) z (high g T.face)) q (S.right_path_walk T.face T.inner.not_t)) in
          record {
            way = left_path g T.face;
            walk = walk_from (sym ends.0) (walk_to (sym ends.1) (S.left_path_walk T.face T.inner.not_s le));
            without = λ i. two_faces (((S.right_path_are T.face T.inner.not_t).only e (subst (λ z. In e z) (sym q) (here refl))).1 ∙ sym ((S.left_path_are T.face T.inner.not_s le).only e i).1);
          }
    ]
      where
        le : T.face ≤ g.t_star
        le = let h = T.inner.not_t in omega arith

pub transitive_law : TransitiveLaw
transitive_law g S e l = (one_side g S e l, transitive g S e l)
