use Rattle.std.proofs.Common.{ap, ◌∙◌}
use Rattle.st_shape.specs.declared.item.Item.TheVariants.{Line}
use Rattle.st_sides.specs.Sides.{edge_tail, edge_head}
use Rattle.st_picture.specs.Naming.{edge_name, vertex_name}
use Rattle.draw_dom.proofs.items.line_of.Goals as goal

pub returns : goal.returns
returns c =
    let S = c.args.sides.now in
    let N = c.args.names.now in
    c.line.ensures ∙ ap (λ z. Line (edge_name N c.args.e.0) (vertex_name N (edge_tail S c.args.e.0)) (vertex_name N (edge_head S c.args.e.0)) z) c.dummied.ensures
