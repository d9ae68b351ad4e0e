use Rattle.std.proofs.Common.{◌∙◌, arith, ap}
use Rattle.std.proofs.lemmas.Result.{IfOk-weaker}
use Rattle.st_shape.specs.declared.picture.Form.TheVariants.{Visibility}
use Rattle.st_picture.specs.Bars.{bars, number_at}
use Rattle.draw_vis.proofs.BuildLemmas.{counts}
use Rattle.draw_vis.proofs.LaidLemmas.{by_bars}
use Rattle.draw_vis.proofs.NumberLemmas.{drawn_by}
use Rattle.draw_vis.proofs.visible.visibility.Goals as goal

pub bars_and_lines-requires-clause-room : goal.bars_and_lines-requires-clause-room
bars_and_lines-requires-clause-room g c =
    let t = counts c.args.sides.now c.facts.ensures in
    omega (arith, t, c.requires.wide, c.local.ensures.has_t)

pub returns-clause-picture : goal.returns-clause-picture
returns-clause-picture g c = IfOk-weaker c.bars_and_lines.result _ _
    (λ d q. by_bars _ c.args.sides.now c.in_ok-grid.grid.heights c.in_ok-grid.grid.columns c.in_ok-grid.ensures.tables c.args.names.now c.in_ok-lines.lines c.in_ok-lines.ensures d
    (q ∙ ap (λ z. bars c.args.sides.now c.args.names.now Visibility (number_at z) (number_at c.items-2.result.now) (number_at c.items-3.result.now)) c.items.ensures
    ∙ ap (λ z. bars c.args.sides.now c.args.names.now Visibility (number_at c.in_ok-grid.grid.heights) (number_at z) (number_at c.items-3.result.now)) c.items-2.ensures
    ∙ ap (λ z. bars c.args.sides.now c.args.names.now Visibility (number_at c.in_ok-grid.grid.heights) (number_at c.in_ok-grid.grid.columns) (number_at z)) c.items-3.ensures))
    c.bars_and_lines.ensures

pub returns-clause-drawn : goal.returns-clause-drawn
returns-clause-drawn g c = IfOk-weaker c.bars_and_lines.result _ _ (λ d V. drawn_by _ c.args.sides.now c.local.ensures c.args.names.now c.requires.names d V) (returns-clause-picture g c)
