-- There is one dominance picture for given names.
--   same_points     the points of a vertex, by any functions that are the numbers
--   pictures_law    there is a picture, one alone, drawn right, and it shows reaching
use Rattle.std.proofs.Common.{ℕ, zero, suc, [], ◌∷◌, ◌≡◌, ◌<◌, ◌+◌, refl, sym, ap, ◌∙◌, arith, Option, Some, None}
use Rattle.st_ids.specs.declared.names.Names.{Names}
use Rattle.st_shape.specs.declared.item.Item.TheVariants.{Dot}
use Rattle.st_shape.specs.declared.picture.Form.TheVariants.{Dominance}
use Rattle.st_shape.specs.declared.point.Point.{Point}
use Rattle.st_shape.specs.Rules.{Drawing}
use Rattle.st_sides.specs.Sides.{SidesValue, edge_tail, edge_head, IsSides}
use Rattle.st_order.specs.Numbers.{HasNumbers}
use Rattle.st_order.proofs.Public.{numbers_law, numberings_law}
use Rattle.st_reduce.specs.ReducedSides.{IsReducedSides}
use Rattle.st_picture.specs.Items.{grid_point}
use Rattle.st_picture.specs.Naming.{vertex_name}
use Rattle.st_picture.proofs.Public.{drawing_same, sink_in}
use Rattle.draw_dom.specs.Compact.{growth, steps, point_x, point_y}
use Rattle.draw_dom.specs.Laws.{DominancePicturesLaw}
use Rattle.draw_dom.specs.Pictures.{compact_point, point_dot, through, dummied, points_and_lines, IsDominancePicture}
use Rattle.draw_dom.proofs.DotLemmas.{dominance_drawn, dominance_reaching}

pub steps_same : (a b : ℕ → ℕ) (n k : ℕ) → ((i : ℕ) → i < n → a i ≡ b i) → k < n → steps a k ≡ steps b k
steps_same a b n zero e l = refl
steps_same a b n (suc k) e l =
    ap (λ z. z + growth (a k) (a (suc k))) (steps_same a b n k e (omega arith)) ∙ ap (λ z. steps b k + growth z (a (suc k))) (e k (omega arith)) ∙ ap (λ z. steps b k + growth (b k) z) (e (suc k) l)

inverse_same : (n : ℕ) (X X' i i' : ℕ → ℕ) → ((v : ℕ) → v < n → X v ≡ X' v) → ((k : ℕ) → k < n → i k < n) → ((k : ℕ) → k < n → X (i k) ≡ k) → ((v : ℕ) → v < n → i' (X' v) ≡ v) → (k : ℕ) → k < n → i k ≡ i' k
inverse_same n X X' i i' e into of back k l = sym (back (i k) (into k l)) ∙ ap i' (sym (e (i k) (into k l)) ∙ of k l)

at_point : (a b a' b' : ℕ) → a ≡ a' → b ≡ b' → grid_point a b ≡ grid_point a' b'
at_point a b a' b' e f = ap (λ z. grid_point z b) e ∙ ap (λ z. grid_point a' z) f

module _ (r : SidesValue) (R : IsSides r) (x y at_x at_y x' y' at_x' at_y' : ℕ → ℕ) (A : HasNumbers r x y at_x at_y) (B : HasNumbers r x' y' at_x' at_y') where
  xs : (v : ℕ) → v < r.vertices → x v ≡ x' v
  xs v i = (numberings_law r R).x_numbers.one v (x v) (x' v) (A.x v i) (B.x v i)

  ys : (v : ℕ) → v < r.vertices → y v ≡ y' v
  ys v i = (numberings_law r R).y_numbers.one v (y v) (y' v) (A.y v i) (B.y v i)

  along_x : (i : ℕ) → i < r.vertices → y (at_x i) ≡ y' (at_x' i)
  along_x i l = ys (at_x i) (A.numberings.at_x_in i l) ∙ ap y' (inverse_same r.vertices x x' at_x at_x' xs A.numberings.at_x_in A.numberings.x_of_at B.numberings.at_x_of i l)

  along_y : (i : ℕ) → i < r.vertices → x (at_y i) ≡ x' (at_y' i)
  along_y i l = xs (at_y i) (A.numberings.at_y_in i l) ∙ ap x' (inverse_same r.vertices y y' at_y at_y' ys A.numberings.at_y_in A.numberings.y_of_at B.numberings.at_y_of i l)

  pub same_points : (v : ℕ) → v < r.vertices → grid_point (point_x x y at_x v) (point_y x y at_y v) ≡ grid_point (point_x x' y' at_x' v) (point_y x' y' at_y' v)
  same_points v i = at_point (point_x x y at_x v) (point_y x y at_y v) (point_x x' y' at_x' v) (point_y x' y' at_y' v)
      (steps_same (λ i. y (at_x i)) (λ i. y' (at_x' i)) r.vertices (x v) along_x (A.numberings.x_in v i) ∙ ap (steps (λ i. y' (at_x' i))) (xs v i))
      (steps_same (λ i. x (at_y i)) (λ i. x' (at_y' i)) r.vertices (y v) along_y (A.numberings.y_in v i) ∙ ap (steps (λ i. x' (at_y' i))) (ys v i))

module _ (g r : SidesValue) (S : IsSides g) (R : IsSides r) (dummy : ℕ → Option ℕ) (last : ℕ → ℕ) (Q : IsReducedSides g r dummy last) (N : Names) where
  through_same : (place place' : ℕ → Point) (a a' b b' : Point) (o : Option ℕ) → a ≡ a' → b ≡ b' → ((w : ℕ) → o ≡ Some w → place w ≡ place' w) → through a b place o ≡ through a' b' place' o
  through_same place place' a a' b b' None e f h = ap (λ z. z ∷ b ∷ []) e ∙ ap (λ z. a' ∷ z ∷ []) f
  through_same place place' a a' b b' (Some w) e f h = ap (λ z. z ∷ place w ∷ b ∷ []) e ∙ ap (λ z. a' ∷ z ∷ b ∷ []) (h w refl) ∙ ap (λ z. a' ∷ place' w ∷ z ∷ []) f

  module _ (place place' : ℕ → Point) (same : (v : ℕ) → v < r.vertices → place v ≡ place' v) where
    old : (v : ℕ) → v < g.vertices → place v ≡ place' v
    old v i = (let h = Q.vertices in same v (omega arith))

    pub one_dots : points_and_lines g N dummy place ≡ points_and_lines g N dummy place'
    one_dots = drawing_same g N Dominance (place g.sink) (place' g.sink) (point_dot N place) (point_dot N place') (dummied g dummy place) (dummied g dummy place') place place'
        (old g.sink (sink_in g S))
        (λ v i. ap (λ z. Dot (vertex_name N v) z) (old v i))
        (λ e a. through_same place place' (place (edge_tail g e)) (place' (edge_tail g e)) (place (edge_head g e)) (place' (edge_head g e)) (dummy e) (old (edge_tail g e) (S.tail_in e a)) (old (edge_head g e) (S.head_in e a)) (λ w q. same w (Q.new_vertex e w a q).1))
        (λ v i. old v i)

  one : (d d' : Drawing) → IsDominancePicture g r dummy N d → IsDominancePicture g r dummy N d' → d ≡ d'
  one d d' A B =
      A.is
      ∙ one_dots (compact_point A.x A.y A.at_x A.at_y) (compact_point B.x B.y B.at_x B.at_y)
      (same_points r R A.x A.y A.at_x A.at_y B.x B.y B.at_x B.at_y A.numbers B.numbers)
      ∙ sym B.is

  some : (d : Drawing) × IsDominancePicture g r dummy N d
  some =
      let X = numbers_law r R in
      (points_and_lines g N dummy (compact_point X.x X.y X.at_x X.at_y), record { x = X.x; y = X.y; at_x = X.at_x; at_y = X.at_y; numbers = X.are; is = refl })

pub pictures_law : DominancePicturesLaw
pictures_law g r S R dummy last Q T = record {
  some = some g r S R dummy last Q;
  one = one g r S R dummy last Q;
  drawn = dominance_drawn g r S R dummy last Q T;
  reaching = dominance_reaching g r S R dummy last Q T;
}
