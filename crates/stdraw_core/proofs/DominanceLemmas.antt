-- A file has one dominance picture with one list of points, and the picture is right.
use Rattle.std.proofs.Common.{◌≡◌, ◌<◌, ℕ, suc, List, [], ◌∷◌, length, slice_get, Option, Some, refl, sym, ap, ◌∙◌, subst, arith}
use Rattle.st_ids.specs.declared.names.Names.{Names}
use Rattle.st_map.specs.Embedded.{Embedded}
use Rattle.st_shape.specs.declared.point.Point.{Point}
use Rattle.st_shape.specs.Rules.{Drawing}
use Rattle.st_sides.specs.Sides.{SidesValue, IsSides}
use Rattle.st_sides.specs.SidesOf.{IsSidesOf}
use Rattle.st_sides.proofs.Public.{meaning_law, one_value_law}
use Rattle.st_test.specs.Planar.{IsPlanarSt, StValue}
use Rattle.st_picture.specs.Naming.{AreNames}
use Rattle.st_picture.specs.Drawn.{IsDrawn}
use Rattle.st_reduce.specs.Reduced.{ReducedIs, dummy_at}
use Rattle.st_reduce.specs.ReducedSides.{last_of}
use Rattle.st_reduce.proofs.Public.{one_reduced_law, reduced_law, reduced_sides_law}
use Rattle.st_order.specs.Numbers.{HasNumbers}
use Rattle.draw_dom.specs.Laws.{HasPictures}
use Rattle.draw_dom.specs.Pictures.{IsDominancePicture, ShowsReaching}
use Rattle.draw_dom.specs.Shown.{IsDominanceOf}
use Rattle.draw_dom.proofs.Public.{none_there, pictures_law, same_points}
use Rattle.stdraw_core.specs.Drawing.{IsReducedPicture}

module _ (st : StValue) (x : SidesValue) (planar : IsPlanarSt st.map.graph st.source st.sink st.outer) (of : IsSidesOf st.map.graph st.source st.sink st.outer x) (is : IsSides x) where
  reduced_is : (N : Names) (d : Drawing) → (h : IsReducedPicture st x N d) → ReducedIs st.map.graph st.source st.sink st.outer h.is.dummies h.is.reduced
  reduced_is N d h = (reduced_law st.map.graph st.source st.sink st.outer planar).1 h.is.dummies h.is.reduced h.is.is_reduced

  pictures : (N : Names) (d : Drawing) → (h : IsReducedPicture st x N d) → HasPictures x h.is.sides (dummy_at h.is.dummies)
  pictures N d h =
      let red = reduced_is N d h in
      let r : IsSides h.is.sides = meaning_law h.is.reduced st.source st.sink st.outer h.is.sides red.keeps.planar h.is.are_sides in
      pictures_law x h.is.sides is r (dummy_at h.is.dummies) (last_of st.map.graph h.is.dummies)
      (reduced_sides_law st.map.graph h.is.reduced st.source st.sink st.outer h.is.dummies x h.is.sides planar h.is.is_reduced of h.is.are_sides)
      (none_there h.is.reduced st.source st.sink st.outer h.is.sides h.is.are_sides red.none)

  picture : (N : Names) (d : Drawing) → (h : IsReducedPicture st x N d) → IsDominancePicture x h.is.sides (dummy_at h.is.dummies) N d
  picture N d h = record { x = h.is.x; y = h.is.y; at_x = h.is.at_x; at_y = h.is.at_y; numbers = h.is.numbers; is = h.is.picture }

  pub right_dominance : (N : Names) → AreNames x N → (d : Drawing) → IsReducedPicture st x N d → IsDrawn x d × ShowsReaching x d
  right_dominance N names d h = ((pictures N d h).drawn N names d (picture N d h), (pictures N d h).reaching N d (picture N d h))

  pub one_dominance : (N : Names) (d d' : Drawing) → IsReducedPicture st x N d → IsReducedPicture st x N d' → d ≡ d'
  one_dominance N d d' h k =
      let one = one_reduced_law st.map.graph h.is.dummies k.is.dummies h.is.reduced k.is.reduced h.is.is_reduced k.is.is_reduced in
      let red = reduced_is N d h in
      let there : IsSidesOf h.is.reduced st.source st.sink st.outer k.is.sides = subst (λ (z : Embedded). IsSidesOf z st.source st.sink st.outer k.is.sides) (sym one.1) k.is.are_sides in
      let same : h.is.sides ≡ k.is.sides = one_value_law h.is.reduced st.source st.sink st.outer h.is.sides k.is.sides red.keeps.planar h.is.are_sides h.is.sizes there k.is.sizes in
      let moved : IsDominancePicture x h.is.sides (dummy_at k.is.dummies) N d' = subst (λ (z : SidesValue). IsDominancePicture x z (dummy_at k.is.dummies) N d') (sym same) (picture N d' k) in
      let moved' : IsDominancePicture x h.is.sides (dummy_at h.is.dummies) N d' = subst (λ (z : List (Option ℕ)). IsDominancePicture x h.is.sides (dummy_at z) N d') (sym one.0) moved in
      (pictures N d h).one N d d' (picture N d h) moved'

-- ---- the points
-- lists of one length that are the same at each place are one
same_list : {X : Type 0} (ps qs : List X) → length ps ≡ length qs → ((i : ℕ) → i < length ps → slice_get ps i ≡ slice_get qs i) → ps ≡ qs
same_list [] [] n each = refl
same_list [] (q ∷ qs) n each = absurd (omega arith)
same_list (p ∷ ps) [] n each = absurd (omega arith)
same_list {X} (p ∷ ps) (q ∷ qs) n each =
    let first : Some p ≡ Some q = each 0 (omega arith) in
    let same : p ≡ q = cc in
    ap (λ (z : X). z ∷ ps) same ∙ ap (λ (zs : List X). q ∷ zs) (same_list ps qs (omega arith) (λ i l. each (suc i) (omega arith)))

-- whatever pictures they were found with
pub one_points : (st : StValue) → IsPlanarSt st.map.graph st.source st.sink st.outer → (x x' : SidesValue) (N : Names) (d d' : Drawing) (ps qs : List Point)
    → IsDominanceOf st.map.graph st.source st.sink st.outer x N d ps → IsDominanceOf st.map.graph st.source st.sink st.outer x' N d' qs → ps ≡ qs
one_points st planar x x' N d d' ps qs h k =
    let one = one_reduced_law st.map.graph h.dummies k.dummies h.reduced k.reduced h.is_reduced k.is_reduced in
    let red = (reduced_law st.map.graph st.source st.sink st.outer planar).1 h.dummies h.reduced h.is_reduced in
    let there : IsSidesOf h.reduced st.source st.sink st.outer k.sides = subst (λ (z : Embedded). IsSidesOf z st.source st.sink st.outer k.sides) (sym one.1) k.are_sides in
    let same : h.sides ≡ k.sides = one_value_law h.reduced st.source st.sink st.outer h.sides k.sides red.keeps.planar h.are_sides h.sizes there k.sizes in
    let numbers : HasNumbers h.sides k.x k.y k.at_x k.at_y = subst (λ (z : SidesValue). HasNumbers z k.x k.y k.at_x k.at_y) (sym same) k.numbers in
    let r : IsSides h.sides = meaning_law h.reduced st.source st.sink st.outer h.sides red.keeps.planar h.are_sides in
    same_list ps qs (h.points_are.size ∙ sym k.points_are.size) (λ v l.
    let old : v < st.map.graph.vertices = omega (arith, h.points_are.size) in
    let there : v < h.sides.vertices = omega (arith, h.are_sides.vertices, red.more) in
    h.points_are.each v old ∙ ap Some (same_points h.sides r h.x h.y h.at_x h.at_y k.x k.y k.at_x k.at_y h.numbers numbers v there) ∙ sym (k.points_are.each v old))
