-- Lines from their parts.
--   bent_of       the points of a line between the dots of its ends
--   rises         the head of an edge stands higher than its tail
use Rattle.std.proofs.Common.{ℕ, List, ◌≡◌, ◌<◌, ℤ, pos, ◌<ℤ◌, sym, ap, ◌∙◌, subst}
use Rattle.st_shape.specs.declared.point.Point.{Point}
use Rattle.st_sides.specs.Sides.{SidesValue, edge_count, edge_tail, edge_head, face_left}
use Rattle.st_picture.specs.Growing.{GrowsUp}
use Rattle.st_picture.specs.Items.{grid_point}
use Rattle.st_picture.proofs.Public.{pos_less}
use Rattle.draw_poly.specs.Polyline.{bends, bent, dot_place}

-- what a function gives on the ends of an edge, which are known by number
pub bent_of : (g : SidesValue) (y c p : ℕ → ℕ) (e t h f : ℕ) (low high : Point) (x : ℤ) (ps : List Point)
    → t ≡ edge_tail g e → h ≡ edge_head g e → f ≡ face_left g e → low ≡ dot_place p y t → high ≡ dot_place p y h → x ≡ pos (c f)
    → ((a i k b j : ℕ) → low ≡ grid_point a i → high ≡ grid_point b j → x ≡ pos k → ps ≡ bends a i k b j) → ps ≡ bent g y c p e
bent_of g y c p e t h f low high x ps q r s l m n F =
    F (p (edge_tail g e)) (y (edge_tail g e)) (c (face_left g e)) (p (edge_head g e)) (y (edge_head g e)) (l ∙ ap (dot_place p y) q) (m ∙ ap (dot_place p y) r) (n ∙ ap (λ z. pos (c z)) s)

pub rises : (g : SidesValue) (y p : ℕ → ℕ) → GrowsUp g y → (e t h : ℕ) (low high : Point) → e < edge_count g → t ≡ edge_tail g e → h ≡ edge_head g e → low ≡ dot_place p y t → high ≡ dot_place p y h → low.y <ℤ high.y
rises g y p up e t h low high a q r l m =
    subst (λ z. z.y <ℤ high.y) (sym (l ∙ ap (dot_place p y) q))
    (subst (λ z. pos (y (edge_tail g e)) <ℤ z.y) (sym (m ∙ ap (dot_place p y) r)) (pos_less (y (edge_tail g e)) (y (edge_head g e)) (up e a)))
