use Rattle.std.proofs.Common.{rules, w64, FitsSigned, refl, sym, ap, ◌∙◌}
use Rattle.std.proofs.lemmas.Int.{to_z-of_z}
use Rattle.st_picture.specs.Naming.{vertex_name}
use Rattle.st_picture.proofs.LabelLemmas.{name_is}
use Rattle.st_picture.proofs.PushLemmas.{edge_name_is}
use Rattle.st_picture.proofs.TableLemmas.{line_is}
use Rattle.st_picture.proofs.composing.line.Goals as goal

pub returns : goal.returns
returns c =
    let N = c.args.names.now in
    let fit_n : FitsSigned w64 c.get.result.now = search rules in
    let fit_t : FitsSigned w64 c.get-2.result.now = search rules in
    let fit_h : FitsSigned w64 c.get-3.result.now = search rules in
    line_is
    (to_z-of_z w64 c.get.result.now fit_n ∙ sym (edge_name_is N c.args.e.0 c.get.result.now c.get.ensures.value))
    (to_z-of_z w64 c.get-2.result.now fit_t ∙ sym (name_is N c.tail-tail.result.0 c.get-2.result.now c.get-2.ensures.value) ∙ ap (vertex_name N) c.tail-tail.ensures.value)
    (to_z-of_z w64 c.get-3.result.now fit_h ∙ sym (name_is N c.head-head.result.0 c.get-3.result.now c.get-3.ensures.value) ∙ ap (vertex_name N) c.head-head.ensures.value)
    refl
