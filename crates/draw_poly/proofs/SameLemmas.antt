-- Pictures of equal heights, columns and places are equal, so there is one picture for given places; and there is some.
use Rattle.std.proofs.Common.{ℕ, ◌≡◌, ◌<◌, ◌≤◌, ◌-◌, refl, sym, ap, ◌∙◌, arith}
use Rattle.st_ids.specs.declared.names.Names.{Names}
use Rattle.st_shape.specs.declared.item.Item.TheVariants.{Dot}
use Rattle.st_shape.specs.declared.picture.Form.TheVariants.{Polyline}
use Rattle.st_shape.specs.Rules.{Drawing}
use Rattle.st_sides.specs.Objects.{vertex}
use Rattle.st_sides.specs.Sides.{SidesValue, edge_tail, edge_head, face_left, left_of, right_of, IsSides}
use Rattle.st_number.proofs.Public.{numbers_law}
use Rattle.st_picture.specs.Items.{grid_point}
use Rattle.st_picture.specs.Naming.{vertex_name}
use Rattle.st_picture.proofs.Public.{drawing_same, sink_in, wide}
use Rattle.draw_poly.specs.Laws.{IsBetween, HasPicture, PolylinePicturesLaw}
use Rattle.draw_poly.specs.Polyline.{bends, bent, dot, dot_place, polylines, IsPolylines}

bends_same : (a i k b j i' k' j' : ℕ) → i ≡ i' → k ≡ k' → j ≡ j' → bends a i k b j ≡ bends a i' k' b j'
bends_same a i k b j i' k' j' e f h = ap (λ z. bends a z k b j) e ∙ ap (λ z. bends a i' z b j) f ∙ ap (λ z. bends a i' k' b z) h

module _ (g : SidesValue) (S : IsSides g) where
  -- also where the places are given by two functions that agree on the vertices
  pub one_placed : (w p q : ℕ → ℕ) → ((v : ℕ) → v < g.vertices → p v ≡ q v) → (N : Names) (d d' : Drawing) → IsPolylines g w p N d → IsPolylines g w q N d' → d ≡ d'
  one_placed w p q ps N d d' A B =
      let ys = (numbers_law g S).same_heights w A.y B.y A.numbers.height B.numbers.height in
      let cs = (numbers_law g S).same_columns A.c B.c A.numbers.column B.numbers.column in
      A.is
      ∙ drawing_same g N Polyline (grid_point (A.c g.t_star - 1) (A.y g.sink)) (grid_point (B.c g.t_star - 1) (B.y g.sink)) (dot N p A.y) (dot N q B.y) (bent g A.y A.c p) (bent g B.y B.c q) (dot_place p A.y) (dot_place q B.y)
      (ap (λ z. grid_point (z - 1) (A.y g.sink)) (cs g.t_star (omega arith)) ∙ ap (grid_point (B.c g.t_star - 1)) (ys g.sink (sink_in g S)))
      (λ v i. ap (λ z. Dot (vertex_name N v) (grid_point (p v) z)) (ys v i) ∙ ap (λ z. Dot (vertex_name N v) (grid_point z (B.y v))) (ps v i))
      (λ e a. bends_same (p (edge_tail g e)) (A.y (edge_tail g e)) (A.c (face_left g e)) (p (edge_head g e)) (A.y (edge_head g e)) (B.y (edge_tail g e)) (B.c (face_left g e)) (B.y (edge_head g e))
      (ys (edge_tail g e) (S.tail_in e a)) (cs (face_left g e) (let l : face_left g e < g.t_star = S.left_before e a in omega arith)) (ys (edge_head g e) (S.head_in e a))
      ∙ ap (λ z. bends z (B.y (edge_tail g e)) (B.c (face_left g e)) (p (edge_head g e)) (B.y (edge_head g e))) (ps (edge_tail g e) (S.tail_in e a))
      ∙ ap (λ z. bends (q (edge_tail g e)) (B.y (edge_tail g e)) (B.c (face_left g e)) z (B.y (edge_head g e))) (ps (edge_head g e) (S.head_in e a)))
      (λ v i. ap (grid_point (p v)) (ys v i) ∙ ap (λ z. grid_point z (B.y v)) (ps v i))
      ∙ sym B.is

  one : (w p : ℕ → ℕ) (N : Names) (d d' : Drawing) → IsPolylines g w p N d → IsPolylines g w p N d' → d ≡ d'
  one w p N d d' A B = one_placed w p p (λ v i. refl) N d d' A B

  -- the ends of a bar
  in_order : (c : ℕ → ℕ) → ((v : ℕ) → v < g.vertices → c (left_of g v) < c (right_of g v)) → (v : ℕ) → v < g.vertices → c (left_of g v) ≤ c (right_of g v) - 1
  in_order c W v i = let b : c (left_of g v) < c (right_of g v) = W v i in omega arith

  pub some : (w : ℕ → ℕ) (N : Names) (f : ℕ → ℕ → ℕ) → IsBetween f → HasPicture g w N f
  some w N f F =
      let M = (numbers_law g S).some w in
      let y = M.0 in
      let c = M.1 in
      let p : ℕ → ℕ = λ v. f (c (left_of g v)) (c (right_of g v) - 1) in
      let W : (v : ℕ) → v < g.vertices → c (left_of g v) < c (right_of g v) = λ v i. wide g S c ((numbers_law g S).columns_grow c M.2.column) (vertex v) i in
      record {
        p = p;
        d = polylines g N y c p;
        is = record {
          y = y;
          c = c;
          numbers = M.2;
          from = λ v i. F.from (c (left_of g v)) (c (right_of g v) - 1) (in_order c W v i);
          to = λ v i. F.to (c (left_of g v)) (c (right_of g v) - 1) (in_order c W v i);
          is = refl;
        };
        placed = λ v i. refl;
      }

  pub pictures_law : PolylinePicturesLaw g
  pictures_law = record { some = some; one = one }
