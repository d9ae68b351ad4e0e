use Rattle.std.proofs.Common.{rules, w64, FitsSigned, sym, ap, ◌∙◌}
use Rattle.std.proofs.lemmas.Int.{to_z-of_z}
use Rattle.st_shape.specs.declared.item.Item.TheVariants.{Dot}
use Rattle.st_picture.proofs.LabelLemmas.{name_is}
use Rattle.st_picture.proofs.composing.dot.Goals as goal

pub returns : goal.returns
returns c =
    let fit : FitsSigned w64 c.get.result.now = search rules in
    ap (λ z. Dot z c.args.p) (to_z-of_z w64 c.get.result.now fit ∙ sym (name_is c.args.names.now c.args.v.0 c.get.result.now c.get.ensures.value))
