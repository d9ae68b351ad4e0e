use Rattle.std.proofs.Common.{◌∷◌, [], ap, ◌∙◌}
use Rattle.st_sides.specs.Sides.{edge_tail, edge_head}
use Rattle.st_picture.specs.Bars.{number_at}
use Rattle.st_picture.specs.Items.{grid_point}
use Rattle.st_picture.specs.Naming.{edge_name, vertex_name}
use Rattle.st_shape.specs.declared.item.Item.TheVariants.{Line}
use Rattle.st_picture.proofs.bars.upright.Goals as goal

pub returns : goal.returns
returns c =
    let g = c.args.sides.now in
    let N = c.args.names.now in
    let y = number_at c.args.heights.now in
    let k = number_at c.args.lines.now in
    let a = c.point_in-low.ensures ∙ ap (λ z. grid_point (k c.args.e.0) (y z)) c.tail-tail.ensures.value in
    let b = c.point_in-high.ensures ∙ ap (λ z. grid_point (k c.args.e.0) (y z)) c.head-head.ensures.value in
    c.line.ensures ∙ ap (λ z. Line (edge_name N c.args.e.0) (vertex_name N (edge_tail g c.args.e.0)) (vertex_name N (edge_head g c.args.e.0)) z)
    (c.two.ensures ∙ ap (λ z. z ∷ c.point_in-high.result ∷ []) a ∙ ap (λ z. grid_point (k c.args.e.0) (y (edge_tail g c.args.e.0)) ∷ z ∷ []) b)
