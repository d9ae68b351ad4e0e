use Rattle.std.proofs.Common.{rules, w64, ◌∙◌, pos, sym}
use Rattle.std.specs.Prelude.{FitsSigned}
use Rattle.std.proofs.lemmas.Int.{to_z-of_z}
use Rattle.std.proofs.lemmas.Option.{get_or_from_slice_get}
use Rattle.draw_align.proofs.picture.column_at.Goals as goal

pub returns : goal.returns
returns c =
    let fit : FitsSigned w64 c.get.result.now = search rules in
    to_z-of_z w64 c.get.result.now fit ∙ sym (get_or_from_slice_get c.args.columns.now c.args.v.0 c.get.result.now (pos 0) c.get.ensures.value)
