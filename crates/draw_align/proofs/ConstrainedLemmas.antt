-- Sound paths are valid, and the pictures of their columns are drawn right and aligned.
use Rattle.std.proofs.Common.{ℕ, List, [], ◌∷◌, ◌≡◌, ◌≢◌, ◌<◌, ◌≤◌, ◌+◌, ◌-◌, inl, inr, refl, sym, ap, ◌∙◌, subst, arith, cond, length}
use Rattle.std.proofs.lemmas.Bool.{cases_lt, lt-ltb, le-ltb}
use Rattle.st_ids.specs.declared.names.Names.{Names}
use Rattle.st_ids.specs.Lists.{In, here}
use Rattle.st_ids.specs.Walks.{stay, step}
use Rattle.st_ids.proofs.Public.{not_in_nil, In-cases, Precedes-left, Precedes-right, no_loop, reach_refl}
use Rattle.st_shape.specs.declared.picture.Form.TheVariants.{Constrained}
use Rattle.st_shape.specs.Rules.{Drawing}
use Rattle.st_sides.specs.Sides.{SidesValue, IsSides, edge_count, edge_tail, edge_head, face_left, face_right, ins, outs}
use Rattle.st_number.specs.Greatest.{IsGreatest}
use Rattle.st_number.specs.Numbers.{AreWeights}
use Rattle.st_number.proofs.Public.{numbers_law}
use Rattle.st_picture.specs.Drawn.{IsDrawn}
use Rattle.st_picture.specs.Growing.{GrowsRight, HasLines}
use Rattle.st_picture.specs.Naming.{AreNames}
use Rattle.st_picture.proofs.Public.{bars_law}
use Rattle.draw_align.specs.Alignment.{Paths, path_count, path_of, AreValid, AreCompleted, node_of_path, alignment, alignment_weight}
use Rattle.draw_align.specs.Constrained.{path_column, IsConstrained}
use Rattle.draw_align.specs.Listed.{path_at, IsPath, CrossRightward, AreSound}
use Rattle.draw_align.proofs.AlignmentLemmas.{alignment_law}

module _ (g : SidesValue) (S : IsSides g) (ps : List (List ℕ)) (sound : AreSound g ps (length ps)) (P : Paths) (C : AreCompleted g ps P) where
  -- one edge does not pass a vertex
  alone_passes : (es : List ℕ) → (e : ℕ) × (e < edge_count g) × (es ≡ e ∷ []) → (x y v : ℕ) → In x es → In y es → edge_head g x ≡ v → edge_tail g y ≡ v → ⊥
  alone_passes es h x y v i j a b = elim (In-cases (subst (λ z. In x z) h.2 i)) [
    | inr n ↦ not_in_nil n
    | inl p ↦ elim (In-cases (subst (λ z. In y z) h.2 j)) [
      | inr n ↦ not_in_nil n
      | inl q ↦ no_loop S.acyclic h.0 h.1 (reach_refl (ap (edge_head g) (sym p) ∙ a ∙ sym b ∙ ap (edge_tail g) q))
    ]
  ]

  into : (v x : ℕ) → v < g.vertices → In x (ins g v) → edge_head g x ≡ v
  into v x l i = ((S.ins_are v l).only x i).1

  out : (v x : ℕ) → v < g.vertices → In x (outs g v) → edge_tail g x ≡ v
  out v x l i = ((S.outs_are v l).only x i).1

  apart : (p q v : ℕ) → p < path_count P → q < path_count P → p ≢ q → v < g.vertices → CrossRightward g (path_at P.lists p) (path_at P.lists q) v → ⊥
  apart p q v l m d lv K = elim (cases_lt p (length ps)) [
    | inr n ↦ alone_passes (path_at P.lists p) (C.alone p n l) K.x K.y v K.x_on K.y_on (into v K.x lv (Precedes-left (ins g v) K.x K.x' K.in_order)) (out v K.y lv (Precedes-right (outs g v) K.y' K.y K.out_order))
    | inl lp ↦ elim (cases_lt q (length ps)) [
      | inr n ↦ alone_passes (path_at P.lists q) (C.alone q n m) K.x' K.y' v K.x'_on K.y'_on (into v K.x' lv (Precedes-right (ins g v) K.x K.x' K.in_order)) (out v K.y' lv (Precedes-left (outs g v) K.y' K.y K.out_order))
      | inl lq ↦
          let K' = subst (λ z. CrossRightward g z (path_at ps q) v) (C.listed p lp) (subst (λ z. CrossRightward g (path_at P.lists p) z v) (C.listed q lq) K) in
          elim (cases_lt p q) [
            | inl h ↦ (sound q lq).uncrossed p v h lv (inr K')
            | inr h ↦ (sound p lp).uncrossed q v (let k : q < p = omega arith in k) lv (inl K')
          ]
    ]
  ]

  pub valid : AreValid g P
  valid = record {
    home_in = C.home_in;
    home = C.home;
    only_home = C.only_home;
    walks = λ p l. elim (cases_lt p (length ps)) [
      | inl h ↦ subst (IsPath g) (sym (C.listed p h)) (sound p h).is_path
      | inr n ↦ (let h = C.alone p n l in subst (IsPath g) (sym h.2) (record { from = edge_tail g h.0; to = edge_head g h.0; walk = step h.1 refl (stay refl); some = (h.0, here refl) }))
    ];
    apart = apart;
  }

  module _ (x : ℕ → ℕ) (X : (f : ℕ) → f < g.t_star + 1 + path_count P → IsGreatest (alignment g P) (alignment_weight g) 0 f (x f)) where
    to_path : (e : ℕ) → e < edge_count g → x (face_left g e) ≤ path_column g P x e
    to_path e a =
        let b : face_left g e < g.t_star = S.left_before e a in
        let h : path_of P e < path_count P = C.home_in e a in
        let G = alignment_law g S P valid in
        let k = subst (λ c. (j k : ℕ) → IsGreatest (alignment g P) (alignment_weight g) 0 (cond c (face_left g e) (node_of_path g (path_of P (e - edge_count g)))) j
        → IsGreatest (alignment g P) (alignment_weight g) 0 (cond c (node_of_path g (path_of P e)) (face_right g (e - edge_count g))) k → j + cond c 0 1 ≤ k) (lt-ltb e (edge_count g) a) (G.greatest.grows e (omega arith)) in
        let r : x (face_left g e) + 0 ≤ x (node_of_path g (path_of P e)) = k (x (face_left g e)) (x (node_of_path g (path_of P e))) (X (face_left g e) (omega arith)) (X (node_of_path g (path_of P e)) (omega arith)) in
        omega arith

    from_path : (e : ℕ) → e < edge_count g → path_column g P x e < x (face_right g e)
    from_path e a =
        let b : face_right g e ≤ g.t_star = S.right_within e a in
        let h : path_of P e < path_count P = C.home_in e a in
        let G = alignment_law g S P valid in
        let q : edge_count g + e - edge_count g ≡ e = omega arith in
        let k = subst (λ c. (j k : ℕ) → IsGreatest (alignment g P) (alignment_weight g) 0 (cond c (face_left g (edge_count g + e)) (node_of_path g (path_of P (edge_count g + e - edge_count g)))) j
        → IsGreatest (alignment g P) (alignment_weight g) 0 (cond c (node_of_path g (path_of P (edge_count g + e))) (face_right g (edge_count g + e - edge_count g))) k → j + cond c 0 1 ≤ k) (le-ltb (edge_count g + e) (edge_count g) (omega arith)) (G.greatest.grows (edge_count g + e) (omega arith)) in
        let m = subst (λ z. (j k : ℕ) → IsGreatest (alignment g P) (alignment_weight g) 0 (node_of_path g (path_of P z)) j → IsGreatest (alignment g P) (alignment_weight g) 0 (face_right g z) k → j + 1 ≤ k) q k in
        let r : x (node_of_path g (path_of P e)) + 1 ≤ x (face_right g e) = m (x (node_of_path g (path_of P e))) (x (face_right g e)) (X (node_of_path g (path_of P e)) (omega arith)) (X (face_right g e) (omega arith)) in
        omega arith

    pub lines_between : HasLines g x (path_column g P x)
    lines_between = record { after_left = to_path; before_right = from_path }

    pub columns_grow : GrowsRight g x
    columns_grow e a =
        let h : x (face_left g e) ≤ path_column g P x e = to_path e a in
        let k : path_column g P x e < x (face_right g e) = from_path e a in
        omega arith

pub constrained_drawn : (g : SidesValue) → IsSides g → (ps : List (List ℕ)) → AreSound g ps (length ps) → (w : ℕ → ℕ) → AreWeights g w → (N : Names) → AreNames g N
    → (d : Drawing) → IsConstrained g w ps N d → IsDrawn g d
constrained_drawn g S ps sound w W N A d D =
    subst (IsDrawn g) (sym D.is) (bars_law g S D.y D.x (path_column g D.paths D.x) ((numbers_law g S).heights_grow w D.y W D.heights) (columns_grow g S ps sound D.paths D.completed D.x D.columns)
    (lines_between g S ps sound D.paths D.completed D.x D.columns) N A Constrained (λ q. cc q) (λ q. cc q))
