-- Compact points from tables.
--   place_next, growth-le        the loop over steps
--   more_items, more_points      one item more
--   vertices_of                  the vertices of the numbers of a list
--   compact_points               places in the two orders make compact points
--   compare                      compact points compare as both numbers
--   read_back                    a number that was turned into one with a sign
use Rattle.std.proofs.Common.{◌≡◌, ℕ, zero, suc, ◌+◌, ◌-◌, ◌≤◌, inl, inr, refl, List, [], ◌∷◌, ◌++◌, below_more, ◌<◌, length, get_or, ap, sym, ◌∙◌, subst, arith, slice_get, Some, ℤ, pos, ◌^◌, ◌≤ℤ◌, to_z, of_z, w64}
use Rattle.std.proofs.lemmas.Bool.{cases_eq}
use Rattle.std.proofs.lemmas.Bool.Decides.{nat_tests}
use Rattle.std.proofs.lemmas.Int.{ints}
use Rattle.std.proofs.lemmas.List.{get_or_append_left, get_or_push}
use Rattle.std.proofs.lemmas.Option.{get_or_from_slice_get}
use Rattle.st_shape.specs.declared.point.Point.{Point}
use Rattle.st_order.specs.Laws.{IsNumbering}
use Rattle.st_order.specs.Numbers.{AreNumberings}
use Rattle.st_order.proofs.Public.{Chosen, chosen}
use Rattle.st_picture.specs.Items.{grid_point, origin}
use Rattle.st_picture.proofs.Public.{pos_same, pos_most}
use Rattle.draw_dom.specs.Compact.{growth, steps, point_x, point_y}
use Rattle.draw_dom.specs.Points.{vertex_number, IsNumberList, AreNumberLists, AreVerticesOf, AreCompactPlaces, ArePoints, AreCompactPoints, CompareAsBoth, vertex_point}
use Rattle.draw_dom.proofs.CompactLemmas.{compact_law}

pub place_next : (f : ℕ → ℕ) (k place : ℕ) → 0 < k → place ≡ steps f (k - 1) → place + growth (f (k - 1)) (f k) ≡ steps f k
place_next f zero place h e = absurd (omega arith)
place_next f (suc k) place h e =
    let p : suc k - 1 ≡ k = omega arith in
    omega (arith, e, ap (steps f) p, ap (λ j. growth (f j) (f (suc k))) p)

pub growth-le : (m n : ℕ) → growth m n ≤ 1
growth-le m n = grind (arith, nat_tests)

-- one more item, at the end
pub more_items : (f : ℕ → ℕ) (items : List ℕ) (k x : ℕ) → length items ≡ k → x ≡ f k →
    ((j : ℕ) → j < k → get_or items j 0 ≡ f j) → (j : ℕ) → j < k + 1 → get_or (items ++ x ∷ []) j 0 ≡ f j
more_items f items k x e is before =
    below_more _ _
    (λ j h. get_or_append_left items (x ∷ []) 0 j (omega arith) ∙ before j h)
    (get_or_push items x 0 k e ∙ is)

get-push_left : (points : List Point) (p : Point) (u : ℕ) → u < length points → slice_get (points ++ p ∷ []) u ≡ slice_get points u
get-push_left [] p u h = absurd (omega arith)
get-push_left (q ∷ points) p zero h = refl
get-push_left (q ∷ points) p (suc u) h = get-push_left points p u (omega arith)

get-push : (points : List Point) (p : Point) → slice_get (points ++ p ∷ []) (length points) ≡ Some p
get-push [] p = refl
get-push (q ∷ points) p = get-push points p

pub more_points : (point : ℕ → Point) (points : List Point) (k : ℕ) (p : Point) → length points ≡ k → p ≡ point k →
    ((u : ℕ) → u < k → slice_get points u ≡ Some (point u)) → (u : ℕ) → u < k + 1 → slice_get (points ++ p ∷ []) u ≡ Some (point u)
more_points point points k p e is before =
    below_more _ _
    (λ u h. get-push_left points p u (omega arith) ∙ before u h)
    (ap (slice_get (points ++ p ∷ [])) (sym e) ∙ get-push points p ∙ ap Some is)

pub read_back : (z : ℤ) (n : ℕ) → z ≡ pos n → n < 2 ^ 32 → to_z w64 (of_z w64 z) ≡ pos n
read_back z n e h = omega (arith, ints)

-- ---- the vertices of the numbers
as_relation : (xs : List ℕ) → IsNumberList xs → IsNumbering (length xs) (λ v k. vertex_number xs v ≡ k)
as_relation xs N = record {
  some = λ v l. (vertex_number xs v, refl);
  one = λ v j k p q. sym p ∙ q;
  below = λ v k l p. subst (λ z. z < length xs) p (N.below v l);
  different = λ u v k l m p q. N.different u v l m (p ∙ sym q);
  onto = N.onto;
}

pub vertices_of : (xs : List ℕ) → IsNumberList xs → Chosen (length xs) (λ v k. vertex_number xs v ≡ k)
vertices_of xs N = chosen (length xs) (λ v k. vertex_number xs v ≡ k) (as_relation xs N)

module _ (xs ys : List ℕ) (N : AreNumberLists xs ys) where
  numberings : (C : Chosen (length xs) (λ v k. vertex_number xs v ≡ k)) (D : Chosen (length ys) (λ v k. vertex_number ys v ≡ k)) → AreNumberings (length xs) (vertex_number xs) (vertex_number ys) C.at D.at
  numberings C D =
      let e = N.same in
      record {
        x_in = N.x.below;
        y_in = λ v l. (let m : vertex_number ys v < length ys = N.y.below v (omega arith) in omega arith);
        at_x_in = C.at_in;
        at_y_in = λ k l. (let m : D.at k < length ys = D.at_in k (omega arith) in omega arith);
        at_x_of = λ v l. ap C.at (C.is v l) ∙ C.at_of v l;
        at_y_of = λ v l. ap D.at (D.is v (omega arith)) ∙ D.at_of v (omega arith);
        x_of_at = λ k l. C.is (C.at k) (C.at_in k l) ∙ C.of_at k l;
        y_of_at = λ k l. D.is (D.at k) (D.at_in k (omega arith)) ∙ D.of_at k (omega arith);
      }

  pub compact_points : (columns rows : List ℕ) (points : List Point) → AreCompactPlaces xs ys columns → AreCompactPlaces ys xs rows → length points ≡ length xs
      → ((v : ℕ) → v < length xs → slice_get points v ≡ Some (grid_point (get_or columns v 0) (get_or rows v 0))) → AreCompactPoints xs ys points
  compact_points columns rows points P Q size each =
      let C = vertices_of xs N.x in
      let D = vertices_of ys N.y in
      let e = N.same in
      let A : AreVerticesOf xs C.at = record { within = C.at_in; has = λ k l. C.is (C.at k) (C.at_in k l) ∙ C.of_at k l } in
      let B : AreVerticesOf ys D.at = record { within = D.at_in; has = λ k l. D.is (D.at k) (D.at_in k l) ∙ D.of_at k l } in
      record {
        at_x = C.at;
        at_y = D.at;
        numberings = numberings C D;
        are = record {
          size = size;
          each = λ v l. each v l ∙ ap (λ z. Some (grid_point z (get_or rows v 0))) (P.each C.at A v l) ∙ ap (λ z. Some (grid_point (point_x (vertex_number xs) (vertex_number ys) C.at v) z)) (Q.each D.at B v (omega arith));
        };
      }

-- ---- the law
pub point_is : (px py : ℕ → ℕ) (n : ℕ) (points : List Point) → ArePoints px py n points → (v : ℕ) → v < n → vertex_point points v ≡ grid_point (px v) (py v)
unfolding vertex_point
point_is px py n points P v l = get_or_from_slice_get points v (grid_point (px v) (py v)) origin (P.each v l)

x_same : (p q : Point) → p ≡ q → p.x ≡ q.x
x_same p q e = ap (λ (r : Point). r.x) e

y_same : (p q : Point) → p ≡ q → p.y ≡ q.y
y_same p q e = ap (λ (r : Point). r.y) e

pub most_pos : (a b : ℕ) → pos a ≤ℤ pos b → a ≤ b
most_pos a b h = omega (arith, ints)

pub compare : (xs ys : List ℕ) (points : List Point) → AreCompactPoints xs ys points → CompareAsBoth xs ys points
compare xs ys points P =
    let X = vertex_number xs in
    let Y = vertex_number ys in
    let px = point_x X Y P.at_x in
    let py = point_y X Y P.at_y in
    let L = compact_law (length xs) X Y P.at_x P.at_y P.numberings in
    let is = point_is px py (length xs) points P.are in
    record {
      different = λ u v i j q. elim (cases_eq u v) [
        | inl e ↦ e
        | inr n ↦
            let r : grid_point (px u) (py u) ≡ grid_point (px v) (py v) = sym (is u i) ∙ q ∙ is v j in
            absurd (L.different u v i j n (pos_same (x_same (grid_point (px u) (py u)) (grid_point (px v) (py v)) r)) (pos_same (y_same (grid_point (px u) (py u)) (grid_point (px v) (py v)) r)))
      ];
      order = λ u v i j. (
        (λ h.
            let hx : pos (px u) ≤ℤ pos (px v) = subst (λ z. z.x ≤ℤ pos (px v)) (is u i) (subst (λ z. (vertex_point points u).x ≤ℤ z.x) (is v j) h.0) in
            let hy : pos (py u) ≤ℤ pos (py v) = subst (λ z. z.y ≤ℤ pos (py v)) (is u i) (subst (λ z. (vertex_point points u).y ≤ℤ z.y) (is v j) h.1) in
            L.back u v i j (most_pos (px u) (px v) hx) (most_pos (py u) (py v) hy)),
        (λ h. (
          subst (λ z. z.x ≤ℤ (vertex_point points v).x) (sym (is u i)) (subst (λ z. pos (px u) ≤ℤ z.x) (sym (is v j)) (pos_most (px u) (px v) (L.x_grows u v i j h.0))),
          subst (λ z. z.y ≤ℤ (vertex_point points v).y) (sym (is u i)) (subst (λ z. pos (py u) ≤ℤ z.y) (sym (is v j)) (pos_most (py u) (py v) (L.y_grows u v i j h.1))),
        )),
      );
    }
