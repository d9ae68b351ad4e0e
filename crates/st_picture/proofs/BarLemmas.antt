-- Pictures of bars and lines are drawn right, whatever heights and columns grow.
--   on_level     a point between the ends of a level segment lies on it
--   rises_up     where y grows a segment rises, in every form but the dominance form
--   bars_law     such a picture is clean, shows the order at each vertex, and fits its frame
-- A point over q is a whole point of the picture scaled by q, so the law on figures that share a point serves fractions.
use Rattle.std.proofs.Common.{ℕ, suc, List, ◌≡◌, ◌≢◌, ◌<◌, ◌≤◌, ◌+◌, ◌-◌, ◌*◌, ◌⊎◌, inl, inr, refl, sym, ap, ◌∙◌, subst, arith, mul-le-mul_left, pos, ◌<ℤ◌, Some, slice_get}
use Rattle.std.proofs.Math.Nat.{eq_of_mul-eq-mul_left}
use Rattle.std.proofs.lemmas.Bool.{cases_eq}
use Rattle.st_ids.specs.declared.names.Names.{Names}
use Rattle.st_shape.specs.declared.picture.Form.{Form}
use Rattle.st_shape.specs.declared.picture.Form.TheVariants.{Visibility, Tessellation, Constrained, Polyline, Dominance}
use Rattle.st_shape.specs.declared.point.Point.{Point}
use Rattle.st_shape.specs.declared.point.Segment.{Segment}
use Rattle.st_shape.specs.Meeting.{Ratio, Share, Meet, IsAt}
use Rattle.st_shape.specs.Clean.{IsSegmentOf, RisesIn}
use Rattle.st_shape.specs.Rules.{Drawing, FitsFrame}
use Rattle.st_shape.specs.Verdict.{IsClean, IsRightIn}
use Rattle.st_sides.specs.Objects.{Object, vertex, edge, IsObject, bottom, top, right}
use Rattle.st_sides.specs.Sides.{SidesValue, edge_count, edge_tail, edge_head, face_left, face_right, left_of, right_of, IsSides}
use Rattle.st_picture.specs.Bars.{bar, bar_start, upright, bars}
use Rattle.st_picture.specs.Drawn.{IsDrawn, IsFitting, BarsLaw}
use Rattle.st_picture.specs.Growing.{GrowsUp, GrowsRight, HasLines, InColumns, HasPoint, from_column, to_column}
use Rattle.st_picture.specs.Items.{grid_point, line}
use Rattle.st_picture.specs.Naming.{AreNames, vertex_name, edge_name}
use Rattle.st_picture.specs.Order.{ShowsOrder}
use Rattle.st_picture.proofs.FigureLemmas.{figures_law}
use Rattle.st_picture.proofs.NaturalLemmas.{segment, pos_same, pos_less, pos_most, inside, Lies, lies, lies_on, is_at, at_bounds, at_same}
use Rattle.st_picture.proofs.NeatLemmas.{IsEndAt, EndsAt, JoinAt, IsNeat, neat_clean}
use Rattle.st_picture.proofs.PlaceLemmas.{vertex_is, line_is, fits}
use Rattle.st_picture.proofs.SegmentLemmas.{of_two}
use Rattle.st_picture.proofs.SpanLemmas.{wide, in_columns, low_height, low_column, right_column, left_at_tail, right_at_tail, left_at_head, right_at_head, out_columns, into_columns, out_first, out_second, in_first, in_second}

-- ---- a place on a level stretch
spot : (lo i k : ℕ) → (i + k) * (lo + i) ≡ k * lo + i * (lo + i + k)
spot lo i k = omega arith

pub on_level : (lo hi x y : ℕ) → lo ≤ x → x ≤ hi → Meet (segment (grid_point x y) (grid_point x y)) (segment (grid_point lo y) (grid_point hi y))
on_level lo hi x y a b = elim (cases_eq lo hi) [
  | inl q ↦ (
    p1,
    record {
      divides = omega arith;
      first = lies_on x y x y p1 (record { x = x; y = y; i = 0; k = 1; x_is = refl; y_is = refl; at_x = record { parts = omega arith; is = omega arith }; at_y = record { parts = omega arith; is = omega arith } });
      second = lies_on lo y hi y p1 (record { x = x; y = y; i = 0; k = 1; x_is = refl; y_is = refl; at_x = record { parts = omega arith; is = omega arith }; at_y = record { parts = omega arith; is = omega arith } });
    },
  )
  | inr n ↦ (
    pw,
    record {
      divides = omega arith;
      first = lies_on x y x y pw (record { x = (hi - lo) * x; y = (hi - lo) * y; i = 0; k = (hi - lo); x_is = refl; y_is = refl; at_x = record { parts = omega arith; is = omega arith }; at_y = record { parts = omega arith; is = omega arith } });
      second = lies_on lo y hi y pw (record { x = (hi - lo) * x; y = (hi - lo) * y; i = x - lo; k = hi - x; x_is = refl; y_is = refl; at_x = record { parts = omega arith; is = within }; at_y = record { parts = omega arith; is = level } });
    },
  )
]
  where
    p1 : Ratio
    p1 = record { x = pos x; y = pos y; q = 1 }

    pw : Ratio
    pw = record { x = pos ((hi - lo) * x); y = pos ((hi - lo) * y); q = (hi - lo) }

    within : (hi - lo) * x ≡ (hi - x) * lo + (x - lo) * hi
    within =
        let i = x - lo in
        let k = hi - x in
        let e : x ≡ lo + i = omega arith in
        let f : hi ≡ lo + i + k = omega arith in
        let d : hi - lo ≡ i + k = omega arith in
        let s = spot lo i k in
        ap (λ z. z * x) d ∙ ap (λ z. (i + k) * z) e ∙ s ∙ ap (λ z. k * lo + i * z) (sym f)

    level : (hi - lo) * y ≡ (hi - x) * y + (x - lo) * y
    level =
        let i = x - lo in
        let k = hi - x in
        let d : hi - lo ≡ k + i = omega arith in
        let s : (k + i) * y ≡ k * y + i * y = omega arith in
        ap (λ z. z * y) d ∙ s

pub scale_less : (q a b : ℕ) → 1 ≤ q → a < b → q * a < q * b
scale_less q a b l h = let m : q * suc a ≤ q * b = mul-le-mul_left q h in omega arith

-- where y grows a line rises, but in the dominance form it need not
pub rises_up : (form : Form) → form ≢ Dominance → (s : Segment) → s.a.y <ℤ s.b.y → RisesIn form s
rises_up Visibility n s h = h
rises_up Tessellation n s h = h
rises_up Constrained n s h = h
rises_up Polyline n s h = h
rises_up Dominance n s h = absurd (n refl)

module _ (g : SidesValue) (S : IsSides g) (y c k : ℕ → ℕ) (up : GrowsUp g y) (rightward : GrowsRight g c) (K : HasLines g c k) where
  abbrev lo : Object → ℕ
  lo o = from_column g c k o

  abbrev hi : Object → ℕ
  hi o = to_column g c k o

  columns : InColumns g c (λ o. from_column g c k o) (λ o. to_column g c k o)
  columns = in_columns g S c rightward k K

  -- the figure of an object
  abbrev stretch : Object → Segment
  stretch o = segment (grid_point (lo o) (y (bottom g o))) (grid_point (hi o) (y (top g o)))

  spans : (o : Object) → IsObject g o → lo o ≤ hi o
  spans (vertex v) i = let h : c (left_of g v) < c (right_of g v) = wide g S c rightward (vertex v) i in omega arith
  spans (edge e) i = omega arith

  high : (o : Object) → IsObject g o → y (bottom g o) ≤ y (top g o)
  high (vertex v) i = omega arith
  high (edge e) i = let h : y (edge_tail g e) < y (edge_head g e) = up e i in omega arith

  -- a point of an object's figure, over q
  point_of : (o : Object) (p : Ratio) → IsObject g o → 1 ≤ p.q → (L : Lies (lo o) (y (bottom g o)) (hi o) (y (top g o)) p) → HasPoint g (λ v. p.q * y v) (λ o. p.q * from_column g c k o) (λ o. p.q * to_column g c k o) o L.x L.y
  point_of o p i l L =
      let w : lo o ≤ hi o = spans o i in
      let h : y (bottom g o) ≤ y (top g o) = high o i in
      let a = at_bounds p.q (lo o) (hi o) L.x L.i L.k (lo o) (hi o) L.at_x (omega arith) w w (omega arith) in
      let b = at_bounds p.q (y (bottom g o)) (y (top g o)) L.y L.i L.k (y (bottom g o)) (y (top g o)) L.at_y (omega arith) h h (omega arith) in
      record { from_left = a.0; to_right = a.1; from_low = b.0; to_high = b.1 }

  meets : (o o' : Object) (p : Ratio) → IsObject g o → IsObject g o' → o ≢ o' → 1 ≤ p.q → (L : Lies (lo o) (y (bottom g o)) (hi o) (y (top g o)) p) (M : Lies (lo o') (y (bottom g o')) (hi o') (y (top g o')) p) → (top g o ≡ bottom g o') ⊎ (top g o' ≡ bottom g o)
  meets o o' p i i' n l L M =
      let ex : M.x ≡ L.x = pos_same (sym M.x_is ∙ L.x_is) in
      let ey : M.y ≡ L.y = pos_same (sym M.y_is ∙ L.y_is) in
      let H = point_of o' p i' l M in
      (figures_law g S).meet (λ v. p.q * y v) (λ f. p.q * c f) (λ o. p.q * from_column g c k o) (λ o. p.q * to_column g c k o)
      (λ e a. scale_less p.q (y (edge_tail g e)) (y (edge_head g e)) l (up e a))
      (λ e a. scale_less p.q (c (face_left g e)) (c (face_right g e)) l (rightward e a))
      (record {
        after_left = λ o a. mul-le-mul_left p.q (columns.after_left o a);
        before_right = λ o a. scale_less p.q (to_column g c k o) (c (right g o)) l (columns.before_right o a);
      })
      o o' i i' n L.x L.y (point_of o p i l L)
      (subst (λ z. HasPoint g (λ v. p.q * y v) (λ o. p.q * from_column g c k o) (λ o. p.q * to_column g c k o) o' L.x z) ey (subst (λ z. HasPoint g (λ v. p.q * y v) (λ o. p.q * from_column g c k o) (λ o. p.q * to_column g c k o) o' z M.y) ex H))

  abbrev points : ℕ → List Point
  points = upright g y k

  of_line : (e : ℕ) (s : Segment) → IsSegmentOf (points e) s → s ≡ stretch (edge e)
  of_line e s Q = of_two (grid_point (k e) (y (edge_tail g e))) (grid_point (k e) (y (edge_head g e))) s Q

  apart : (u v : ℕ) → u < g.vertices → v < g.vertices → u ≢ v → Meet (stretch (vertex u)) (stretch (vertex v)) → ⊥
  apart u v i j n M =
      let p = M.0 in
      let Q = M.1 in
      elim (meets (vertex u) (vertex v) p i j (λ h. n (cc h)) Q.divides (lies (lo (vertex u)) (y u) (hi (vertex u)) (y u) p Q.first) (lies (lo (vertex v)) (y v) (hi (vertex v)) (y v) p Q.second)) [
        | inl q ↦ n q
        | inr q ↦ n (sym q)
      ]

  passes : (v e : ℕ) (s : Segment) (p : Ratio) → v < g.vertices → e < edge_count g → IsSegmentOf (points e) s → Share s (stretch (vertex v)) p → EndsAt g points e v p
  passes v e s p i a Q T =
      let T' = subst (λ z. Share z (stretch (vertex v)) p) (of_line e s Q) T in
      let L = lies (lo (edge e)) (y (edge_tail g e)) (hi (edge e)) (y (edge_head g e)) p T'.first in
      let M = lies (lo (vertex v)) (y v) (hi (vertex v)) (y v) p T'.second in
      let x : L.x ≡ p.q * k e = at_same p.q (k e) L.x L.i L.k L.at_x in
      let h : M.y ≡ p.q * y v = at_same p.q (y v) M.y M.i M.k M.at_y in
      elim (meets (edge e) (vertex v) p a i (λ z. cc z) T'.divides L M) [
        | inl q ↦ record { v = grid_point (k e) (y (edge_head g e)); end = inr (refl, q); is = is_at p L.x M.y (k e) (y (edge_head g e)) L.x_is M.y_is x (h ∙ ap (λ z. p.q * y z) (sym q)) }
        | inr q ↦ record { v = grid_point (k e) (y (edge_tail g e)); end = inl (refl, sym q); is = is_at p L.x M.y (k e) (y (edge_tail g e)) L.x_is M.y_is x (h ∙ ap (λ z. p.q * y z) q) }
      ]

  some_point : (x z : Point) → Some x ≡ Some z → x ≡ z
  some_point x z e = cc e

  ends : (e m : ℕ) (v : Point) → e < edge_count g → m < g.vertices → IsEndAt g points e m v → Meet (segment v v) (stretch (vertex m))
  ends e m v a i (inl (q, t)) =
      let f : c (face_left g e) ≤ k e = K.after_left e a in
      let h : k e < c (face_right g e) = K.before_right e a in
      let l : c (left_of g (edge_tail g e)) ≤ c (face_left g e) = left_at_tail g S c rightward e a in
      let r : c (face_right g e) ≤ c (right_of g (edge_tail g e)) = right_at_tail g S c rightward e a in
      subst (λ z. Meet (segment z z) (stretch (vertex m))) (some_point (grid_point (k e) (y (edge_tail g e))) v q)
      (subst (λ z. Meet (segment (grid_point (k e) (y (edge_tail g e))) (grid_point (k e) (y (edge_tail g e)))) (stretch (vertex z))) t
      (on_level (c (left_of g (edge_tail g e))) (c (right_of g (edge_tail g e)) - 1) (k e) (y (edge_tail g e)) (omega arith) (omega arith)))
  ends e m v a i (inr (q, t)) =
      let f : c (face_left g e) ≤ k e = K.after_left e a in
      let h : k e < c (face_right g e) = K.before_right e a in
      let l : c (left_of g (edge_head g e)) ≤ c (face_left g e) = left_at_head g S c rightward e a in
      let r : c (face_right g e) ≤ c (right_of g (edge_head g e)) = right_at_head g S c rightward e a in
      subst (λ z. Meet (segment z z) (stretch (vertex m))) (some_point (grid_point (k e) (y (edge_head g e))) v q)
      (subst (λ z. Meet (segment (grid_point (k e) (y (edge_head g e))) (grid_point (k e) (y (edge_head g e)))) (stretch (vertex z))) t
      (on_level (c (left_of g (edge_head g e))) (c (right_of g (edge_head g e)) - 1) (k e) (y (edge_head g e)) (omega arith) (omega arith)))

  -- the upper end of e is the lower end of f
  joined : (e f : ℕ) (p : Ratio) → e < edge_count g → f < edge_count g → 1 ≤ p.q → (L : Lies (k e) (y (edge_tail g e)) (k e) (y (edge_head g e)) p) (M : Lies (k f) (y (edge_tail g f)) (k f) (y (edge_head g f)) p) → edge_head g e ≡ edge_tail g f → (grid_point (k e) (y (edge_head g e)) ≡ grid_point (k f) (y (edge_tail g f))) × IsAt p (grid_point (k e) (y (edge_head g e)))
  joined e f p a b l L M q =
      let ex : L.x ≡ M.x = pos_same (sym L.x_is ∙ M.x_is) in
      let ey : L.y ≡ M.y = pos_same (sym L.y_is ∙ M.y_is) in
      let xe : L.x ≡ p.q * k e = at_same p.q (k e) L.x L.i L.k L.at_x in
      let xf : M.x ≡ p.q * k f = at_same p.q (k f) M.x M.i M.k M.at_x in
      let ke : k e ≡ k f = eq_of_mul-eq-mul_left p.q l (k e) (k f) (sym xe ∙ ex ∙ xf) in
      let h : y (edge_head g e) ≡ y (edge_tail g f) = ap y q in
      let ue : y (edge_tail g e) < y (edge_head g e) = up e a in
      let uf : y (edge_tail g f) < y (edge_head g f) = up f b in
      let A = (at_bounds p.q (y (edge_tail g e)) (y (edge_head g e)) L.y L.i L.k 0 (y (edge_head g e)) L.at_y (omega arith) (omega arith) (omega arith) (omega arith)).1 in
      let B = (at_bounds p.q (y (edge_tail g f)) (y (edge_head g f)) M.y M.i M.k (y (edge_tail g f)) (y (edge_head g f)) M.at_y (omega arith) (omega arith) (omega arith) (omega arith)).0 in
      let B' : p.q * y (edge_head g e) ≤ M.y = subst (λ z. p.q * z ≤ M.y) (sym h) B in
      (ap (λ z. grid_point z (y (edge_head g e))) ke ∙ ap (λ z. grid_point (k f) z) h, is_at p L.x L.y (k e) (y (edge_head g e)) L.x_is L.y_is xe (omega arith))

  lines : (e f : ℕ) (s t : Segment) (p : Ratio) → e < edge_count g → f < edge_count g → e ≢ f → IsSegmentOf (points e) s → IsSegmentOf (points f) t → Share s t p → JoinAt g points e f p
  lines e f s t p a b n Q R T =
      let T' = subst (λ z. Share (stretch (edge e)) z p) (of_line f t R) (subst (λ z. Share z t p) (of_line e s Q) T) in
      let L = lies (k e) (y (edge_tail g e)) (k e) (y (edge_head g e)) p T'.first in
      let M = lies (k f) (y (edge_tail g f)) (k f) (y (edge_head g f)) p T'.second in
      elim (meets (edge e) (edge f) p a b (λ z. n (cc z)) T'.divides L M) [
        | inl q ↦ (let J = joined e f p a b T'.divides L M q in record { m = edge_head g e; v = grid_point (k e) (y (edge_head g e)); first = inr (refl, refl); second = inl (ap Some (sym J.0), sym q); is = J.1 })
        | inr q ↦ (let J = joined f e p b a T'.divides M L q in record { m = edge_head g f; v = grid_point (k f) (y (edge_head g f)); first = inl (ap Some (sym J.0), sym q); second = inr (refl, refl); is = J.1 })
      ]

  neat : (form : Form) → form ≢ Dominance → IsNeat g form (λ v. stretch (vertex v)) points
  neat form n = record {
    rises = λ e s a Q. subst (RisesIn form) (sym (of_line e s Q)) (rises_up form n (stretch (edge e)) (pos_less (y (edge_tail g e)) (y (edge_head g e)) (up e a)));
    apart = apart;
    passes = passes;
    ends = ends;
    lines = lines;
  }

  module _ (N : Names) (A : AreNames g N) (form : Form) where
    abbrev picture : Drawing
    picture = bars g N form y c k

    abbrev corner : Point
    corner = grid_point (c g.t_star - 1) (y g.sink)

    figure_at : (v : ℕ) → v < g.vertices → slice_get picture.items v ≡ Some (bar g N y c v)
    figure_at v i = vertex_is g N form corner (bar g N y c) points (bar_start g y c) v i

    line_at : (e : ℕ) → e < edge_count g → slice_get picture.items (g.vertices + e) ≡ Some (line g N points e)
    line_at e a = line_is g N form corner (bar g N y c) points (bar_start g y c) e a

    shows : (v : ℕ) → v < g.vertices → ShowsOrder g picture v
    shows v i = record {
      out = λ e f h.
          let a = (out_first g S v e f i h).0 in
          let b = (out_second g S v e f i h).0 in
          let m : c (face_right g e) ≤ c (face_left g f) = out_columns g S c rightward v e f i h in
          let l : k e < c (face_right g e) = K.before_right e a in
          let r : c (face_left g f) ≤ k f = K.after_left f b in
          record {
            figure = bar g N y c v;
            ps = points e;
            qs = points f;
            figure_is = figure_at v i;
            first = record { name = edge_name N e; tail = vertex_name N (edge_tail g e); head = vertex_name N (edge_head g e); is = line_at e a };
            second = record { name = edge_name N f; tail = vertex_name N (edge_tail g f); head = vertex_name N (edge_head g f); is = line_at f b };
            is_left = pos_less (k e) (k f) (omega arith);
          };
      into = λ e f h.
          let a = (in_first g S v e f i h).0 in
          let b = (in_second g S v e f i h).0 in
          let m : c (face_right g e) ≤ c (face_left g f) = into_columns g S c rightward v e f i h in
          let l : k e < c (face_right g e) = K.before_right e a in
          let r : c (face_left g f) ≤ k f = K.after_left f b in
          record {
            figure = bar g N y c v;
            ps = points e;
            qs = points f;
            figure_is = figure_at v i;
            first = record { name = edge_name N e; tail = vertex_name N (edge_tail g e); head = vertex_name N (edge_head g e); is = line_at e a };
            second = record { name = edge_name N f; tail = vertex_name N (edge_tail g f); head = vertex_name N (edge_head g f); is = line_at f b };
            is_left = pos_less (k e) (k f) (omega arith);
          };
    }

    pub bar_fits : (v : ℕ) → v < g.vertices → FitsFrame corner (bar g N y c v)
    bar_fits v i =
        let h : y v ≤ y g.sink = low_height g S y up v i in
        let w : c (left_of g v) < c (right_of g v) = wide g S c rightward (vertex v) i in
        let r : c (right_of g v) ≤ c g.t_star = right_column g S c rightward v i in
        (inside (c g.t_star - 1) (y g.sink) (c (left_of g v)) (y v) (omega arith) h, inside (c g.t_star - 1) (y g.sink) (c (right_of g v) - 1) (y v) (omega arith) h, pos_most (c (left_of g v)) (c (right_of g v) - 1) (omega arith))

    pub line_fits : (e : ℕ) → e < edge_count g → FitsFrame corner (line g N points e)
    line_fits e a =
        let l : k e < c (face_right g e) = K.before_right e a in
        let r : c (face_right g e) ≤ c g.t_star = low_column g S c rightward (face_right g e) (S.right_within e a) in
        (omega arith, omega arith, (inside (c g.t_star - 1) (y g.sink) (k e) (y (edge_tail g e)) (omega arith) (low_height g S y up (edge_tail g e) (S.tail_in e a)), (inside (c g.t_star - 1) (y g.sink) (k e) (y (edge_head g e)) (omega arith) (low_height g S y up (edge_head g e) (S.head_in e a)), tt)))

    fitting : IsFitting picture
    fitting = fits g N form corner (bar g N y c) points (bar_start g y c) bar_fits line_fits
        (λ v text i q.
        let w : c (left_of g v) < c (right_of g v) = wide g S c rightward (vertex v) i in
        let r : c (right_of g v) ≤ c g.t_star = right_column g S c rightward v i in
        (inside (c g.t_star - 1) (y g.sink) (c (left_of g v)) (y v) (omega arith) (low_height g S y up v i), (A.texts v text i q).0, (A.texts v text i q).1, (A.texts v text i q).2))

    clean : form ≢ Dominance → IsClean form picture.items
    clean n = neat_clean g S N A form corner (bar g N y c) points (bar_start g y c) (λ v. stretch (vertex v)) (λ v i. refl) (neat form n)

    right_in : (f : Form) → f ≢ Tessellation → IsClean f picture.items → IsRightIn f picture
    right_in Visibility n h = h
    right_in Tessellation n h = absurd (n refl)
    right_in Constrained n h = h
    right_in Polyline n h = h
    right_in Dominance n h = h

    bars_drawn : form ≢ Tessellation → form ≢ Dominance → IsDrawn g picture
    bars_drawn m n = record {
      right = right_in form m (clean n);
      order = shows;
      fitting = fitting;
    }

pub bars_law : (g : SidesValue) → IsSides g → BarsLaw g
bars_law g S y c k up rightward L N A form m n = bars_drawn g S y c k up rightward L N A form m n
