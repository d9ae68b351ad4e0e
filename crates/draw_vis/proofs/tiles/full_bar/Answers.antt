use Rattle.std.proofs.Common.{rules, w64, sym, ap, ◌∙◌, pos}
use Rattle.std.specs.Prelude.{FitsSigned}
use Rattle.std.proofs.lemmas.Int.{to_z-of_z}
use Rattle.st_picture.specs.Bars.{number_at}
use Rattle.st_picture.proofs.Public.{name_is}
use Rattle.draw_vis.proofs.ItemLemmas.{bar_of}
use Rattle.draw_vis.proofs.tiles.full_bar.Goals as goal

pub returns : goal.returns
returns c =
    let g = c.args.sides.now in
    let N = c.args.names.now in
    let f1 : FitsSigned w64 c.get.result.now = search rules in
    let f2 : FitsSigned w64 c.height.result = search rules in
    let f3 : FitsSigned w64 c.column.result = search rules in
    let f4 : FitsSigned w64 c.column-2.result = search rules in
    bar_of g N (number_at c.args.grid.now.heights) (number_at c.args.grid.now.columns) c.args.v.0 _ _ _ _
    (to_z-of_z w64 c.get.result.now f1 ∙ sym (name_is N c.args.v.0 c.get.result.now c.get.ensures.value))
    (to_z-of_z w64 c.height.result f2 ∙ c.height.ensures)
    (to_z-of_z w64 c.column.result f3 ∙ c.column.ensures ∙ ap (λ z. pos (number_at c.args.grid.now.columns z)) c.left.ensures.value)
    (to_z-of_z w64 c.column-2.result f4 ∙ c.column-2.ensures ∙ ap (λ z. pos (number_at c.args.grid.now.columns z)) c.right.ensures.value)
