use Rattle.std.proofs.Common.{ap, ◌∙◌}
use Rattle.st_shape.specs.declared.item.Item.TheVariants.{Dot}
use Rattle.st_picture.specs.Naming.{vertex_name}
use Rattle.draw_dom.proofs.items.dot_of.Goals as goal

pub returns : goal.returns
returns c = c.dot.ensures ∙ ap (λ z. Dot (vertex_name c.args.names.now c.args.v.0) z) c.place.ensures
