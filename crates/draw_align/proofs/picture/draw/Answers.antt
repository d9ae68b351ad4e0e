use Rattle.std.proofs.Common.{◌+◌, sym, ap, ◌∙◌, subst, arith}
use Rattle.std.proofs.lemmas.Result.{IfOk-weaker}
use Rattle.st_shape.specs.declared.picture.Form.TheVariants.{Constrained}
use Rattle.st_picture.specs.Bars.{bars, number_at, AreTables, HasFrame}
use Rattle.draw_align.proofs.BuiltLemmas.{has_homes, node_count, counts}
use Rattle.draw_align.proofs.PictureLemmas.{same_edges, tables_of, frame_of, picture_by}
use Rattle.draw_align.proofs.picture.draw.Goals as goal

pub heights-requires-clause-edges : goal.heights-requires-clause-edges
heights-requires-clause-edges g c = c.requires.weights ∙ same_edges _ _ _ _ c.args.sides.now c.requires.sides

pub signed-requires-clause-room : goal.signed-requires-clause-room
signed-requires-clause-room g c =
    let h = node_count c.args.sides.now c.facts.ensures c.local.ensures c.args.paths.now c.requires.few c.requires.wide c.args.homes.now.table c.args.homes.now.count c.requires.paths in
    omega (arith, h, c.in_ok-sums.ensures.size)

pub lines_of-requires-clause-homes : goal.lines_of-requires-clause-homes
lines_of-requires-clause-homes g c = has_homes c.args.sides.now c.local.ensures c.args.paths.now c.args.homes.now.table c.args.homes.now.count (c.faces.result + c.args.homes.now.count) c.requires.paths c.requires.paths.size
    (ap (λ z. z + c.args.homes.now.count) c.faces.ensures.value)

pub bars_and_lines-requires-clause-tables : goal.bars_and_lines-requires-clause-tables
bars_and_lines-requires-clause-tables g c =
    subst (λ z. AreTables c.args.sides.now z c.items-2.result.now c.items-3.result.now) (sym c.items.ensures)
    (subst (λ z. AreTables c.args.sides.now c.in_ok-heights.heights z c.items-3.result.now) (sym c.items-2.ensures)
    (subst (λ z. AreTables c.args.sides.now c.in_ok-heights.heights c.in_ok-columns.columns z) (sym c.items-3.ensures)
    (tables_of _ _ _ _ c.args.sides.now c.requires.sides c.local.ensures _ c.args.w.now.most c.in_ok-heights.heights c.in_ok-heights.ensures c.args.paths.now c.requires.sound c.args.homes.now.table c.args.homes.now.count
    c.in_ok-sums.sums c.in_ok-sums.ensures c.in_ok-columns.columns c.in_ok-columns.ensures c.in_ok-lines.lines c.in_ok-lines.ensures)))

pub bars_and_lines-requires-clause-frame : goal.bars_and_lines-requires-clause-frame
bars_and_lines-requires-clause-frame g c =
    subst (λ z. HasFrame c.args.sides.now z c.items-2.result.now) (sym c.items.ensures)
    (subst (λ z. HasFrame c.args.sides.now c.in_ok-heights.heights z) (sym c.items-2.ensures)
    (frame_of _ _ _ _ c.args.sides.now c.requires.sides c.local.ensures _ c.args.w.now.most c.in_ok-heights.heights c.in_ok-heights.ensures c.args.paths.now c.requires.sound c.args.homes.now.table c.args.homes.now.count
    c.in_ok-sums.sums c.in_ok-sums.ensures c.in_ok-columns.columns c.in_ok-columns.ensures c.in_ok-lines.lines c.in_ok-lines.ensures c.requires.high c.requires.wide))

pub bars_and_lines-requires-clause-room : goal.bars_and_lines-requires-clause-room
bars_and_lines-requires-clause-room g c =
    let t = counts c.args.sides.now c.facts.ensures in
    omega (arith, t, c.requires.wide, c.local.ensures.has_t)

pub returns : goal.returns
returns g c = IfOk-weaker c.bars_and_lines.result _ _
    (λ d q. picture_by _ _ _ _ c.args.sides.now c.requires.sides c.local.ensures _ c.args.w.now.most c.in_ok-heights.heights c.in_ok-heights.ensures c.args.paths.now c.requires.sound c.args.homes.now.table c.args.homes.now.count
    c.in_ok-sums.sums c.in_ok-sums.ensures c.in_ok-columns.columns c.in_ok-columns.ensures c.in_ok-lines.lines c.in_ok-lines.ensures c.args.names.now d
    (q ∙ ap (λ z. bars c.args.sides.now c.args.names.now Constrained (number_at z) (number_at c.items-2.result.now) (number_at c.items-3.result.now)) c.items.ensures
    ∙ ap (λ z. bars c.args.sides.now c.args.names.now Constrained (number_at c.in_ok-heights.heights) (number_at z) (number_at c.items-3.result.now)) c.items-2.ensures
    ∙ ap (λ z. bars c.args.sides.now c.args.names.now Constrained (number_at c.in_ok-heights.heights) (number_at c.in_ok-columns.columns) (number_at z)) c.items-3.ensures))
    c.bars_and_lines.ensures
