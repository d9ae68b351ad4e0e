use Rattle.std.proofs.Common.{rules, w64, sym, ap, ◌∙◌}
use Rattle.std.specs.Prelude.{FitsSigned}
use Rattle.std.proofs.lemmas.Int.{to_z-of_z}
use Rattle.st_sides.specs.Sides.{face_left, face_right}
use Rattle.st_picture.specs.Bars.{number_at}
use Rattle.st_picture.specs.Items.{grid_point}
use Rattle.st_picture.specs.Naming.{vertex_name}
use Rattle.st_picture.proofs.Public.{name_is, edge_name_is}
use Rattle.draw_vis.proofs.ItemLemmas.{box_of}
use Rattle.draw_vis.proofs.tiles.edge_box.Goals as goal

pub returns : goal.returns
returns c =
    let g = c.args.sides.now in
    let N = c.args.names.now in
    let y = number_at c.args.grid.now.heights in
    let k = number_at c.args.grid.now.columns in
    let f1 : FitsSigned w64 c.get.result.now = search rules in
    let f2 : FitsSigned w64 c.get-2.result.now = search rules in
    let f3 : FitsSigned w64 c.get-3.result.now = search rules in
    box_of g N y k c.args.e.0 _ _ _ _ _
    (to_z-of_z w64 c.get.result.now f1 ∙ sym (edge_name_is N c.args.e.0 c.get.result.now c.get.ensures.value))
    (to_z-of_z w64 c.get-2.result.now f2 ∙ sym (name_is N c.tail-tail.result.0 c.get-2.result.now c.get-2.ensures.value) ∙ ap (vertex_name N) c.tail-tail.ensures.value)
    (to_z-of_z w64 c.get-3.result.now f3 ∙ sym (name_is N c.head-head.result.0 c.get-3.result.now c.get-3.ensures.value) ∙ ap (vertex_name N) c.head-head.ensures.value)
    (c.point.ensures ∙ ap (λ z. grid_point (k z) (y c.tail-tail.result.0)) c.face_left.ensures.value ∙ ap (λ z. grid_point (k (face_left g c.args.e.0)) (y z)) c.tail-tail.ensures.value)
    (c.point-2.ensures ∙ ap (λ z. grid_point (k z) (y c.head-head.result.0)) c.face_right.ensures.value ∙ ap (λ z. grid_point (k (face_right g c.args.e.0)) (y z)) c.head-head.ensures.value)
