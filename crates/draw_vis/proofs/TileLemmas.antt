-- Boxes between bars tile the frame and show the orders, whatever heights and columns grow from 0.
--   bar_is, box_is, box_of   what stands where in the picture, and which item is a box
--   boxes_fit                all items lie in the frame
--   boxes_drawn              the boxes tile the frame, show the orders, and fit
--   tessellation_drawn, tiled_by       so does the tessellation picture
use Rattle.std.proofs.Common.{ℕ, List, ◌++◌, ◌≡◌, ◌<◌, ◌≤◌, ◌+◌, inl, inr, refl, sym, ap, ◌∙◌, subst, arith, pos, ◌≤ℤ◌, ◌<ℤ◌, Some, slice_get}
use Rattle.std.proofs.lemmas.Int.{ints}
use Rattle.std.proofs.lemmas.Bool.{cases_eq}
use Rattle.st_ids.specs.declared.ids.EdgeId.{EdgeId}
use Rattle.st_ids.specs.declared.names.Names.{Names}
use Rattle.st_ids.specs.Lists.{In, Linked, FirstIs, LastIs}
use Rattle.st_ids.specs.Walks.{Walk, stay, step}
use Rattle.st_ids.proofs.Public.{FirstIs-weaken, on_walk}
use Rattle.st_shape.specs.declared.item.Item.{Item}
use Rattle.st_shape.specs.declared.point.Point.{Point}
use Rattle.st_shape.specs.Boxes.{HasCell, HasOneBox, IsTiled}
use Rattle.st_shape.specs.Rules.{Drawing, FitsFrame}
use Rattle.st_sides.specs.Sides.{SidesValue, edge_count, edge_tail, edge_head, face_left, face_right, left_of, right_of, low, high, outs, ins, primal, IsInner, MeetsLow, MeetsHigh, IsSides}
use Rattle.st_sides.specs.Objects.{vertex}
use Rattle.st_number.specs.Numbers.{AreWeights}
use Rattle.st_number.proofs.Public.{numbers_law}
use Rattle.st_picture.specs.Bars.{bar_start}
use Rattle.st_picture.specs.Drawn.{IsFitting}
use Rattle.st_picture.specs.Growing.{GrowsUp, GrowsRight, IsInBox}
use Rattle.st_picture.specs.Items.{grid_point, items_by, labels}
use Rattle.st_picture.specs.Naming.{AreNames, vertex_name, edge_name}
use Rattle.st_picture.proofs.Public.{figures_law, reach_grows, pos_less, pos_most, inside, all_append, all_each, all_labels, all_at, later_place, first_place, place_cases, low_height, low_column, right_column, wide}
use Rattle.draw_vis.specs.Rows.{HasBox, IsRow, ShowsRows, IsTessellated}
use Rattle.draw_vis.specs.Tables.{frame_of}
use Rattle.draw_vis.specs.Tessellation.{full_bar, box, post, boxes, IsTessellation, IsTessellationBy}
use Rattle.draw_vis.proofs.RowLemmas.{LastIs-weaken, Linked-weaken, out_left, out_right, in_left, in_right, no_out, no_in}

less_of : (k l : ℕ) → pos k <ℤ pos l → k < l
less_of k l h = omega (arith, ints)

most_of : (k l : ℕ) → pos k ≤ℤ pos l → k ≤ l
most_of k l h = omega (arith, ints)

-- ---- within the frame
module _ (g : SidesValue) (S : IsSides g) (y c : ℕ → ℕ) (up : GrowsUp g y) (rightward : GrowsRight g c) where
  stays_within : {u v : ℕ} {es : List ℕ} → Walk (primal g) u es v → u < g.vertices → v < g.vertices
  stays_within (stay q) l = subst (λ z. z < g.vertices) q l
  stays_within (step {e = e} a t r) l = stays_within r (S.head_in e a)

  -- the ends of a face
  face_heights : (f : ℕ) → f ≤ g.t_star → (y (low g f) ≤ y (high g f)) × (y (high g f) ≤ y g.sink)
  face_heights f l = elim (cases_eq f 0) [
    | inl q ↦
        let a = ap (λ z. y (low g z)) q ∙ ap y S.low_s in
        let b = ap (λ z. y (high g z)) q ∙ ap y S.high_s in
        let m : y g.source ≤ y g.sink = low_height g S y up g.source S.source_in in
        (omega arith, omega arith)
    | inr n ↦ elim (cases_eq f g.t_star) [
      | inl q ↦
          let a = ap (λ z. y (low g z)) q ∙ ap y S.low_t in
          let b = ap (λ z. y (high g z)) q ∙ ap y S.high_t in
          let m : y g.source ≤ y g.sink = low_height g S y up g.source S.source_in in
          (omega arith, omega arith)
      | inr n' ↦
          let inner : IsInner g f = record { not_s = omega arith; not_t = omega arith } in
          let some = S.left_path_some f inner in
          let E = on_walk (S.left_path_walk f (omega arith) (omega arith)) some.1 in
          let a : y (low g f) ≤ y (edge_tail g some.0) = reach_grows (primal g) y up (low g f) (edge_tail g some.0) E.before in
          let b : y (edge_head g some.0) ≤ y (high g f) = reach_grows (primal g) y up (edge_head g some.0) (high g f) E.after in
          let d : y (edge_tail g some.0) < y (edge_head g some.0) = up some.0 E.arc in
          (omega arith, low_height g S y up (high g f) (stays_within E.after.walk (S.head_in some.0 E.arc)))
    ]
  ]

  pub bar_fits : (N : Names) (v : ℕ) → v < g.vertices → FitsFrame (frame_of g y c) (full_bar g N y c v)
  bar_fits N v i =
      let h : y v ≤ y g.sink = low_height g S y up v i in
      let w : c (left_of g v) < c (right_of g v) = wide g S c rightward (vertex v) i in
      let r : c (right_of g v) ≤ c g.t_star = right_column g S c rightward v i in
      (inside (c g.t_star) (y g.sink) (c (left_of g v)) (y v) (omega arith) h, inside (c g.t_star) (y g.sink) (c (right_of g v)) (y v) r h, pos_most (c (left_of g v)) (c (right_of g v)) (omega arith))

  pub box_fits : (N : Names) (e : ℕ) → e < edge_count g → FitsFrame (frame_of g y c) (box g N y c e)
  box_fits N e a =
      let l : c (face_left g e) < c (face_right g e) = rightward e a in
      let r : c (face_right g e) ≤ c g.t_star = low_column g S c rightward (face_right g e) (S.right_within e a) in
      let u : y (edge_tail g e) < y (edge_head g e) = up e a in
      let h : y (edge_head g e) ≤ y g.sink = low_height g S y up (edge_head g e) (S.head_in e a) in
      (inside (c g.t_star) (y g.sink) (c (face_left g e)) (y (edge_tail g e)) (omega arith) (omega arith), inside (c g.t_star) (y g.sink) (c (face_right g e)) (y (edge_head g e)) r h, pos_less (c (face_left g e)) (c (face_right g e)) l, pos_less (y (edge_tail g e)) (y (edge_head g e)) u)

  pub post_fits : (f : ℕ) → f < g.t_star + 1 → FitsFrame (frame_of g y c) (post g y c f)
  post_fits f l =
      let H = face_heights f (omega arith) in
      let a : y (low g f) ≤ y (high g f) = H.0 in
      let b : y (high g f) ≤ y g.sink = H.1 in
      let r : c f ≤ c g.t_star = low_column g S c rightward f (omega arith) in
      (inside (c g.t_star) (y g.sink) (c f) (y (low g f)) r (omega arith), inside (c g.t_star) (y g.sink) (c f) (y (high g f)) r b, pos_most (y (low g f)) (y (high g f)) a)

-- ---- the picture
module _ (g : SidesValue) (S : IsSides g) (N : Names) (A : AreNames g N) (y c : ℕ → ℕ) (up : GrowsUp g y) (rightward : GrowsRight g c) where
  abbrev picture : Drawing
  picture = boxes g N y c

  abbrev place : ℕ → Point
  place = bar_start g y c

  abbrev faces : List Item
  faces = items_by (post g y c) (g.t_star + 1) ++ labels N place g.vertices

  bar_is : (v : ℕ) → v < g.vertices → slice_get picture.items v ≡ Some (full_bar g N y c v)
  bar_is v i = first_place (full_bar g N y c) g.vertices (items_by (box g N y c) (edge_count g) ++ faces) v i

  box_is : (e : ℕ) → e < edge_count g → slice_get picture.items (g.vertices + e) ≡ Some (box g N y c e)
  box_is e a = later_place (full_bar g N y c) g.vertices (items_by (box g N y c) (edge_count g) ++ faces) e ∙ first_place (box g N y c) (edge_count g) faces e a

  -- ---- tiles
  record BoxOf (i j m : ℕ) : Type 0 where
    pub e : ℕ
    pub place : m ≡ g.vertices + e
    pub has : IsInBox g y c e i j

  in_box : (e i j : ℕ) → e < edge_count g → HasCell (box g N y c e) i j → IsInBox g y c e i j
  in_box e i j a h = record {
    arc = a;
    from_left = most_of (c (face_left g e)) i h.left;
    to_right = less_of i (c (face_right g e)) h.right;
    from_low = most_of (y (edge_tail g e)) j h.below;
    to_high = less_of j (y (edge_head g e)) h.above;
  }

  box_of : (i j m : ℕ) (x : Item) → slice_get picture.items m ≡ Some x → HasCell x i j → BoxOf i j m
  box_of i j m x q h = elim (place_cases (full_bar g N y c) g.vertices (items_by (box g N y c) (edge_count g) ++ faces) m x q) [
    | inl k ↦ absurd (subst (λ z. HasCell z i j) k.1 h)
    | inr k ↦ elim (place_cases (box g N y c) (edge_count g) faces k.k x k.is) [
      | inl l ↦ record { e = k.k; place = k.place; has = in_box k.k i j l.0 (subst (λ z. HasCell z i j) l.1 h) }
      | inr l ↦ elim (place_cases (post g y c) (g.t_star + 1) (labels N place g.vertices) l.k x l.is) [
        | inl r ↦ absurd (subst (λ z. HasCell z i j) r.1 h)
        | inr r ↦ absurd (all_at (λ z. HasCell z i j → ⊥) (labels N place g.vertices) r.k x (all_labels (λ z. HasCell z i j → ⊥) N place g.vertices (λ v text l e n. n)) r.is h)
      ]
    ]
  ]

  one_box : c 0 ≡ 0 → y g.source ≡ 0 → (i j : ℕ) → i < c g.t_star → j < y g.sink → HasOneBox picture.items i j
  one_box c0 y0 i j a b =
      let C = (figures_law g S).covered y c up rightward i j (omega arith) a (omega arith) b in
      let H = C.1 in
      record {
        k = g.vertices + C.0;
        box = record {
          e = box g N y c C.0;
          e_is = box_is C.0 H.arc;
          cell = record {
            left = pos_most (c (face_left g C.0)) i H.from_left;
            right = pos_less i (c (face_right g C.0)) H.to_right;
            below = pos_most (y (edge_tail g C.0)) j H.from_low;
            above = pos_less j (y (edge_head g C.0)) H.to_high;
          };
        };
        only = λ m M.
            let B = box_of i j m M.e M.e_is M.cell in
            let q = (figures_law g S).once y c up rightward B.e C.0 i j B.has H in
            B.place ∙ ap (λ z. g.vertices + z) q;
      }

  tiled : c 0 ≡ 0 → y g.source ≡ 0 → IsTiled picture.frame picture.items
  tiled c0 y0 = record { each = λ i j a b. one_box c0 y0 i j (less_of i (c g.t_star) a) (less_of j (y g.sink) b) }

  -- ---- rows
  a_box : (e : ℕ) (P : Point → Point → Type 0) → e < edge_count g → P (grid_point (c (face_left g e)) (y (edge_tail g e))) (grid_point (c (face_right g e)) (y (edge_head g e))) → HasBox picture.items (g.vertices + e) P
  a_box e P a h = record {
    name = edge_name N e;
    tail = vertex_name N (edge_tail g e);
    head = vertex_name N (edge_head g e);
    lowest = grid_point (c (face_left g e)) (y (edge_tail g e));
    highest = grid_point (c (face_right g e)) (y (edge_head g e));
    is = box_is e a;
    holds = h;
  }

  row : (v : ℕ) (es : List ℕ) (P : Point → Point → Type 0) → ((e : ℕ) → In e es → e < edge_count g) → ((e : ℕ) → In e es → P (grid_point (c (face_left g e)) (y (edge_tail g e))) (grid_point (c (face_right g e)) (y (edge_head g e)))) → FirstIs (λ e. left_of g v ≡ face_left g e) es → Linked (λ e f. face_right g e ≡ face_left g f) es → LastIs (λ e. right_of g v ≡ face_right g e) es → IsRow picture.items g.vertices P (pos (c (left_of g v))) (pos (c (right_of g v))) es
  row v es P within level F K L = record {
    each = λ e i. a_box e P (within e i) (level e i);
    first = FirstIs-weaken (λ e. left_of g v ≡ face_left g e) (λ e. HasBox picture.items (g.vertices + e) (λ lowest highest. lowest.x ≡ pos (c (left_of g v)))) es
        (λ e i q. a_box e (λ lowest highest. lowest.x ≡ pos (c (left_of g v))) (within e i) (ap (λ z. pos (c z)) (sym q))) F;
    next = Linked-weaken (λ e f. face_right g e ≡ face_left g f) (λ e f. HasBox picture.items (g.vertices + e) (λ lowest highest. HasBox picture.items (g.vertices + f) (λ lowest' highest'. highest.x ≡ lowest'.x))) es
        (λ e f i j q. a_box e (λ lowest highest. HasBox picture.items (g.vertices + f) (λ lowest' highest'. highest.x ≡ lowest'.x)) (within e i)
        (a_box f (λ lowest' highest'. pos (c (face_right g e)) ≡ lowest'.x) (within f j) (ap (λ z. pos (c z)) q))) K;
    last = LastIs-weaken (λ e. right_of g v ≡ face_right g e) (λ e. HasBox picture.items (g.vertices + e) (λ lowest highest. highest.x ≡ pos (c (right_of g v)))) es
        (λ e i q. a_box e (λ lowest highest. highest.x ≡ pos (c (right_of g v))) (within e i) (ap (λ z. pos (c z)) (sym q))) L;
  }

  shows : (v : ℕ) → v < g.vertices → ShowsRows g picture v
  shows v i = record {
    y = pos (y v);
    from = pos (c (left_of g v));
    to = pos (c (right_of g v));
    bar = record { name = vertex_name N v; is = bar_is v i };
    out = λ n. row v (outs g v) (λ lowest highest. lowest.y ≡ pos (y v)) (λ e j. ((S.outs_are v i).only e j).0) (λ e j. ap (λ z. pos (y z)) ((S.outs_are v i).only e j).1)
        (out_left g S v i n) (Linked-weaken (MeetsLow g v) (λ e f. face_right g e ≡ face_left g f) (outs g v) (λ e f j k m. m.same) (S.outs_meet v i)) (out_right g S v i n);
    into = λ n. row v (ins g v) (λ lowest highest. highest.y ≡ pos (y v)) (λ e j. ((S.ins_are v i).only e j).0) (λ e j. ap (λ z. pos (y z)) ((S.ins_are v i).only e j).1)
        (in_left g S v i n) (Linked-weaken (MeetsHigh g v) (λ e f. face_right g e ≡ face_left g f) (ins g v) (λ e f j k m. m.same) (S.ins_meet v i)) (in_right g S v i n);
    none_out = no_out g S v i;
    none_in = no_in g S v i;
  }

  fitting : IsFitting picture
  fitting = all_append fit (items_by (full_bar g N y c) g.vertices) (items_by (box g N y c) (edge_count g) ++ faces)
      (all_each fit (full_bar g N y c) g.vertices (bar_fits g S y c up rightward N))
      (all_append fit (items_by (box g N y c) (edge_count g)) faces (all_each fit (box g N y c) (edge_count g) (box_fits g S y c up rightward N))
      (all_append fit (items_by (post g y c) (g.t_star + 1)) (labels N place g.vertices) (all_each fit (post g y c) (g.t_star + 1) (post_fits g S y c up rightward))
      (all_labels fit N place g.vertices (λ v text i q.
      let w : c (left_of g v) < c (right_of g v) = wide g S c rightward (vertex v) i in
      let r : c (right_of g v) ≤ c g.t_star = right_column g S c rightward v i in
      (inside (c g.t_star) (y g.sink) (c (left_of g v)) (y v) (omega arith) (low_height g S y up v i), (A.texts v text i q).0, (A.texts v text i q).1, (A.texts v text i q).2)))))
    where
      fit : Item → Type 0
      fit x = FitsFrame picture.frame x

  pub boxes_drawn : c 0 ≡ 0 → y g.source ≡ 0 → IsTessellated g picture
  boxes_drawn c0 y0 = record { form = refl; right = tiled c0 y0; order = shows; fitting = fitting }

pub tessellation_drawn : (g : SidesValue) → IsSides g → (w : ℕ → ℕ) → AreWeights g w → (N : Names) → AreNames g N → (d : Drawing) → IsTessellation g w N d → IsTessellated g d
tessellation_drawn g S w W N A d D =
    let L = numbers_law g S in
    let up = L.heights_grow w D.y W D.numbers.height in
    let rightward = L.columns_grow D.c D.numbers.column in
    subst (IsTessellated g) (sym D.is) (boxes_drawn g S N A D.y D.c up rightward (L.first_column D.c D.numbers.column) (L.source_height w D.y D.numbers.height))

pub tiled_by : (answer : EdgeId → ℕ → Type 0) (g : SidesValue) → IsSides g → (N : Names) → AreNames g N → (d : Drawing) → IsTessellationBy answer g N d → IsTessellated g d
tiled_by answer g S N A d T = tessellation_drawn g S T.weight T.from_one N A d T.picture
