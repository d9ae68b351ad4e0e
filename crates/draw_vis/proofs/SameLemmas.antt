-- Pictures of equal heights and columns are equal, so there is one picture of each form; and there is some.
use Rattle.std.proofs.Common.{ℕ, List, ◌++◌, ◌≡◌, ◌<◌, ◌≤◌, ◌+◌, ◌-◌, ◌∷◌, [], inl, inr, refl, sym, ap, ◌∙◌, subst, arith, pos}
use Rattle.std.proofs.lemmas.Bool.{cases_eq}
use Rattle.st_ids.specs.declared.names.Names.{Names}
use Rattle.st_ids.specs.Walks.{Walk, stay, step}
use Rattle.st_ids.proofs.Public.{on_walk}
use Rattle.st_shape.specs.declared.item.Item.{Item}
use Rattle.st_shape.specs.declared.item.Item.TheVariants.{Bar, Rect, Face}
use Rattle.st_shape.specs.declared.picture.Form.{Form}
use Rattle.st_shape.specs.declared.picture.Form.TheVariants.{Visibility, Tessellation}
use Rattle.st_shape.specs.declared.point.Point.{Point}
use Rattle.st_shape.specs.Rules.{Drawing}
use Rattle.st_sides.specs.Objects.{vertex}
use Rattle.st_sides.specs.Sides.{SidesValue, edge_count, edge_tail, edge_head, face_left, face_right, left_of, right_of, low, high, primal, dual, IsInner, IsSides}
use Rattle.st_sides.proofs.Public.{across}
use Rattle.st_number.proofs.Public.{numbers_law}
use Rattle.st_picture.specs.Bars.{bar, bar_start, upright, bars}
use Rattle.st_picture.specs.Items.{grid_point, items_by, labels}
use Rattle.st_picture.specs.Naming.{vertex_name, edge_name}
use Rattle.st_picture.proofs.Public.{bars_same, drawing_same, each_same, labels_same, right_in, sink_in}
use Rattle.draw_vis.specs.Laws.{PicturesLaw}
use Rattle.draw_vis.specs.Tessellation.{full_bar, box, post, boxes}
use Rattle.draw_vis.specs.Visibility.{in_left_column}

-- ---- items
at_same : (a b a' b' : ℕ) → a ≡ a' → b ≡ b' → grid_point a b ≡ grid_point a' b'
at_same a b a' b' e f = ap (λ z. grid_point z b) e ∙ ap (λ z. grid_point a' z) f

bar_same : (N : Names) (v y f t y' f' t' : ℕ) → y ≡ y' → f ≡ f' → t ≡ t' → Bar (vertex_name N v) (pos y) (pos f) (pos t) ≡ Bar (vertex_name N v) (pos y') (pos f') (pos t')
bar_same N v y f t y' f' t' a b c = ap (λ z. Bar (vertex_name N v) (pos z) (pos f) (pos t)) a ∙ ap (λ z. Bar (vertex_name N v) (pos y') (pos z) (pos t)) b ∙ ap (λ z. Bar (vertex_name N v) (pos y') (pos f') (pos z)) c

post_same : (f a b x a' b' x' : ℕ) → a ≡ a' → b ≡ b' → x ≡ x' → Face f (pos a) (pos b) (pos x) ≡ Face f (pos a') (pos b') (pos x')
post_same f a b x a' b' x' p q r = ap (λ t. Face f (pos t) (pos b) (pos x)) p ∙ ap (λ t. Face f (pos a') (pos t) (pos x)) q ∙ ap (λ t. Face f (pos a') (pos b') (pos t)) r

abbrev picture_of : Form → Point → List Item → Drawing
picture_of form frame items = record { form = form; frame = frame; items = items }

picture_same : (form : Form) (p p' : Point) (xs xs' : List Item) → p ≡ p' → xs ≡ xs' → picture_of form p xs ≡ picture_of form p' xs'
picture_same form p p' xs xs' e f = ap (λ z. picture_of form z xs) e ∙ ap (λ z. picture_of form p' z) f

three_same : (a a' b b' c c' : List Item) → a ≡ a' → b ≡ b' → c ≡ c' → a ++ (b ++ c) ≡ a' ++ (b' ++ c')
three_same a a' b b' c c' p q r = ap (λ t. t ++ (b ++ c)) p ∙ ap (λ t. a' ++ (t ++ c)) q ∙ ap (λ t. a' ++ (b' ++ t)) r

-- bars and lines whose lines stand in the same columns
pub bars_of_lines : (g : SidesValue) (N : Names) (form : Form) (y c k k' : ℕ → ℕ) → ((e : ℕ) → e < edge_count g → k e ≡ k' e) → bars g N form y c k ≡ bars g N form y c k'
bars_of_lines g N form y c k k' h =
    drawing_same g N form (grid_point (c g.t_star - 1) (y g.sink)) (grid_point (c g.t_star - 1) (y g.sink)) (bar g N y c) (bar g N y c) (upright g y k) (upright g y k') (bar_start g y c) (bar_start g y c)
    refl (λ v i. refl) (λ e a. ap (λ z. grid_point z (y (edge_tail g e)) ∷ grid_point z (y (edge_head g e)) ∷ []) (h e a)) (λ v i. refl)

module _ (g : SidesValue) (S : IsSides g) where
  -- ---- numbers that are in range
  starts_within : {u v : ℕ} {es : List ℕ} → Walk (dual g) u es v → v ≤ g.t_star → u ≤ g.t_star
  starts_within (stay q) l = subst (λ z. z ≤ g.t_star) (sym q) l
  starts_within (step {e = e} a t r) l = (let m : face_left g e < g.t_star = S.left_before e a in subst (λ z. z ≤ g.t_star) t (omega arith))

  pub left_in : (v : ℕ) → v < g.vertices → left_of g v ≤ g.t_star
  left_in v i = elim (across g S (vertex v) i) [
    | inl A ↦ (let m : face_left g A.arc < g.t_star = S.left_before A.arc A.is_arc in starts_within A.from_left.walk (omega arith))
    | inr z ↦ (let q : left_of g v ≡ 0 = z.0 in omega arith)
  ]

  edge_left_in : (e : ℕ) → e < edge_count g → face_left g e ≤ g.t_star
  edge_left_in e a = let m : face_left g e < g.t_star = S.left_before e a in omega arith

  -- the ends of faces
  begins_in : {u v : ℕ} {es : List ℕ} → Walk (primal g) u es v → v < g.vertices → u < g.vertices
  begins_in (stay q) l = subst (λ z. z < g.vertices) (sym q) l
  begins_in (step {e = e} a t r) l = subst (λ z. z < g.vertices) t (S.tail_in e a)

  ends_in : {u v : ℕ} {es : List ℕ} → Walk (primal g) u es v → u < g.vertices → v < g.vertices
  ends_in (stay q) l = subst (λ z. z < g.vertices) q l
  ends_in (step {e = e} a t r) l = ends_in r (S.head_in e a)

  pub face_ends : (f : ℕ) → f ≤ g.t_star → (low g f < g.vertices) × (high g f < g.vertices)
  face_ends f l = elim (cases_eq f 0) [
    | inl q ↦ (subst (λ z. z < g.vertices) (sym (ap (low g) q ∙ S.low_s)) S.source_in, subst (λ z. z < g.vertices) (sym (ap (high g) q ∙ S.high_s)) (sink_in g S))
    | inr n ↦ elim (cases_eq f g.t_star) [
      | inl q ↦ (subst (λ z. z < g.vertices) (sym (ap (low g) q ∙ S.low_t)) S.source_in, subst (λ z. z < g.vertices) (sym (ap (high g) q ∙ S.high_t)) (sink_in g S))
      | inr m ↦
          let inner : IsInner g f = record { not_s = omega arith; not_t = omega arith } in
          let some = S.left_path_some f inner in
          let E = on_walk (S.left_path_walk f (omega arith) (omega arith)) some.1 in
          (begins_in E.before.walk (S.tail_in some.0 E.arc), ends_in E.after.walk (S.head_in some.0 E.arc))
    ]
  ]

  module _ (N : Names) (y c y' c' : ℕ → ℕ) (ys : (v : ℕ) → v < g.vertices → y v ≡ y' v) (cs : (f : ℕ) → f ≤ g.t_star → c f ≡ c' f) where
    labels_agree : labels N (bar_start g y c) g.vertices ≡ labels N (bar_start g y' c') g.vertices
    labels_agree = labels_same N (bar_start g y c) (bar_start g y' c') g.vertices (λ v i. at_same (c (left_of g v)) (y v) (c' (left_of g v)) (y' v) (cs (left_of g v) (left_in v i)) (ys v i))

    -- ---- bars and lines
    pub one_bars : bars g N Visibility y c (in_left_column g c) ≡ bars g N Visibility y' c' (in_left_column g c')
    one_bars = bars_same g S N Visibility y c (in_left_column g c) y' c' (in_left_column g c') ys cs (λ e a. cs (face_left g e) (edge_left_in e a))

    -- ---- boxes
    box_same : (e a b x z a' b' x' z' : ℕ) → a ≡ a' → b ≡ b' → x ≡ x' → z ≡ z' → Rect (edge_name N e) (vertex_name N (edge_tail g e)) (vertex_name N (edge_head g e)) (grid_point a b) (grid_point x z) ≡ Rect (edge_name N e) (vertex_name N (edge_tail g e)) (vertex_name N (edge_head g e)) (grid_point a' b') (grid_point x' z')
    box_same e a b x z a' b' x' z' p q r s =
        ap (λ t. Rect (edge_name N e) (vertex_name N (edge_tail g e)) (vertex_name N (edge_head g e)) t (grid_point x z)) (at_same a b a' b' p q)
        ∙ ap (λ t. Rect (edge_name N e) (vertex_name N (edge_tail g e)) (vertex_name N (edge_head g e)) (grid_point a' b') t) (at_same x z x' z' r s)

    one_box : (e : ℕ) → e < edge_count g → box g N y c e ≡ box g N y' c' e
    one_box e a = box_same e (c (face_left g e)) (y (edge_tail g e)) (c (face_right g e)) (y (edge_head g e)) (c' (face_left g e)) (y' (edge_tail g e)) (c' (face_right g e)) (y' (edge_head g e))
        (cs (face_left g e) (edge_left_in e a)) (ys (edge_tail g e) (S.tail_in e a)) (cs (face_right g e) (S.right_within e a)) (ys (edge_head g e) (S.head_in e a))

    one_post : (f : ℕ) → f < g.t_star + 1 → post g y c f ≡ post g y' c' f
    one_post f l =
        let E = face_ends f (omega arith) in
        post_same f (c f) (y (low g f)) (y (high g f)) (c' f) (y' (low g f)) (y' (high g f)) (cs f (omega arith)) (ys (low g f) E.0) (ys (high g f) E.1)

    posts_agree : items_by (post g y c) (g.t_star + 1) ++ labels N (bar_start g y c) g.vertices ≡ items_by (post g y' c') (g.t_star + 1) ++ labels N (bar_start g y' c') g.vertices
    posts_agree =
        ap (λ z. z ++ labels N (bar_start g y c) g.vertices) (each_same (post g y c) (post g y' c') (g.t_star + 1) one_post)
        ∙ ap (λ z. items_by (post g y' c') (g.t_star + 1) ++ z) labels_agree

    pub one_boxes : boxes g N y c ≡ boxes g N y' c'
    one_boxes = picture_same Tessellation (grid_point (c g.t_star) (y g.sink)) (grid_point (c' g.t_star) (y' g.sink))
        (items_by (full_bar g N y c) g.vertices ++ (items_by (box g N y c) (edge_count g) ++ (items_by (post g y c) (g.t_star + 1) ++ labels N (bar_start g y c) g.vertices)))
        (items_by (full_bar g N y' c') g.vertices ++ (items_by (box g N y' c') (edge_count g) ++ (items_by (post g y' c') (g.t_star + 1) ++ labels N (bar_start g y' c') g.vertices)))
        (at_same (c g.t_star) (y g.sink) (c' g.t_star) (y' g.sink) (cs g.t_star (omega arith)) (ys g.sink (sink_in g S)))
        (three_same (items_by (full_bar g N y c) g.vertices) (items_by (full_bar g N y' c') g.vertices) (items_by (box g N y c) (edge_count g)) (items_by (box g N y' c') (edge_count g)) (items_by (post g y c) (g.t_star + 1) ++ labels N (bar_start g y c) g.vertices) (items_by (post g y' c') (g.t_star + 1) ++ labels N (bar_start g y' c') g.vertices)
        (each_same (full_bar g N y c) (full_bar g N y' c') g.vertices (λ v i. bar_same N v (y v) (c (left_of g v)) (c (right_of g v)) (y' v) (c' (left_of g v)) (c' (right_of g v)) (ys v i) (cs (left_of g v) (left_in v i)) (cs (right_of g v) (right_in g S v i))))
        (each_same (box g N y c) (box g N y' c') (edge_count g) one_box)
        posts_agree)

  pub pictures_law : PicturesLaw g
  pictures_law = record {
    some_visibility = λ w N. (let M = (numbers_law g S).some w in (bars g N Visibility M.0 M.1 (in_left_column g M.1), record { y = M.0; c = M.1; numbers = M.2; is = refl }));
    one_visibility = λ w N d d' A B.
        A.is ∙ one_bars N A.y A.c B.y B.c ((numbers_law g S).same_heights w A.y B.y A.numbers.height B.numbers.height) ((numbers_law g S).same_columns A.c B.c A.numbers.column B.numbers.column) ∙ sym B.is;
    some_tessellation = λ w N. (let M = (numbers_law g S).some w in (boxes g N M.0 M.1, record { y = M.0; c = M.1; numbers = M.2; is = refl }));
    one_tessellation = λ w N d d' A B.
        A.is ∙ one_boxes N A.y A.c B.y B.c ((numbers_law g S).same_heights w A.y B.y A.numbers.height B.numbers.height) ((numbers_law g S).same_columns A.c B.c A.numbers.column B.numbers.column) ∙ sym B.is;
  }
