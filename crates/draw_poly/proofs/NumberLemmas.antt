-- Heights, columns and places keep lines apart, so the polyline picture is drawn right.
--   tracks                       heights, columns and places between the ends of bars keep lines apart
--   polyline_drawn               so the polyline picture is drawn right
use Rattle.std.proofs.Common.{ℕ, ◌<◌, ◌≤◌, ◌+◌, ◌-◌, sym, subst, arith}
use Rattle.st_ids.specs.declared.names.Names.{Names}
use Rattle.st_shape.specs.Rules.{Drawing}
use Rattle.st_sides.specs.Objects.{vertex}
use Rattle.st_sides.specs.Sides.{SidesValue, edge_tail, edge_head, left_of, right_of, IsSides}
use Rattle.st_number.specs.Numbers.{AreNumbers}
use Rattle.st_number.proofs.Public.{heights_law, numbers_law}
use Rattle.st_picture.specs.Drawn.{IsDrawn}
use Rattle.st_picture.specs.Growing.{GrowsRight}
use Rattle.st_picture.specs.Naming.{AreNames}
use Rattle.st_picture.proofs.Public.{wide}
use Rattle.draw_poly.specs.Numbers.{AreLong}
use Rattle.draw_poly.specs.Polyline.{IsPolylines}
use Rattle.draw_poly.specs.Tracks.{AreTracks}
use Rattle.draw_poly.proofs.BendLemmas.{polylines_drawn}

-- heights and columns under long weights, and places on the bars, keep lines apart
pub tracks : (g : SidesValue) → IsSides g → (w : ℕ → ℕ) → AreLong g w → (y c p : ℕ → ℕ) → AreNumbers g w y c
    → ((v : ℕ) → v < g.vertices → c (left_of g v) ≤ p v) → ((v : ℕ) → v < g.vertices → p v ≤ c (right_of g v) - 1) → AreTracks g y c p
tracks g S w W y c p M from to =
    let rightward : GrowsRight g c = (numbers_law g S).columns_grow c M.column in
    record {
      up = (numbers_law g S).heights_grow w y W.from_one M.height;
      rightward = rightward;
      from = from;
      to = λ v i. (let b : c (left_of g v) < c (right_of g v) = wide g S c rightward (vertex v) i in let h = to v i in omega arith);
      high = λ e f a b n q r.
          let h : y (edge_tail g e) + w e ≤ y (edge_head g e) = ((heights_law g S).heights w).grows e a (y (edge_tail g e)) (y (edge_head g e)) (M.height (edge_tail g e) (S.tail_in e a)) (M.height (edge_head g e) (S.head_in e a)) in
          let t : 2 ≤ w e = W.from_two e f a b n q r in
          omega arith;
    }

pub polyline_drawn : (g : SidesValue) → IsSides g → (w : ℕ → ℕ) → AreLong g w → (p : ℕ → ℕ) (N : Names) → AreNames g N → (d : Drawing) → IsPolylines g w p N d → IsDrawn g d
polyline_drawn g S w W p N A d D = subst (IsDrawn g) (sym D.is) (polylines_drawn g S D.y D.c p (tracks g S w W D.y D.c p D.numbers D.from D.to) N A)
