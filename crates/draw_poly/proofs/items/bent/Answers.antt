use Rattle.std.proofs.Common.{rules, w64, ap, ◌∙◌}
use Rattle.std.specs.Prelude.{FitsSigned}
use Rattle.std.proofs.lemmas.Int.{to_z-of_z}
use Rattle.st_shape.specs.declared.item.Item.TheVariants.{Line}
use Rattle.st_sides.specs.Sides.{edge_tail, edge_head}
use Rattle.st_picture.specs.Bars.{number_at}
use Rattle.st_picture.specs.Naming.{edge_name, vertex_name}
use Rattle.draw_poly.proofs.ItemLemmas.{bent_of}
use Rattle.draw_poly.proofs.items.bent.Goals as goal

pub returns : goal.returns
returns c =
    let S = c.args.sides.now in
    let N = c.args.names.now in
    let fit_x : FitsSigned w64 c.column-x.result = search rules in
    c.line.ensures ∙ ap (λ z. Line (edge_name N c.args.e.0) (vertex_name N (edge_tail S c.args.e.0)) (vertex_name N (edge_head S c.args.e.0)) z)
    (bent_of S (number_at c.args.grid.now.heights) (number_at c.args.grid.now.columns) (number_at c.args.grid.now.places) c.args.e.0 c.tail-tail.result.0 c.head-head.result.0 c.face_left.result.0
    c.dot_place-low.result c.dot_place-high.result _ c.bends.result c.tail-tail.ensures.value c.head-head.ensures.value c.face_left.ensures.value c.dot_place-low.ensures c.dot_place-high.ensures (to_z-of_z w64 c.column-x.result fit_x ∙ c.column-x.ensures) c.bends.ensures)
