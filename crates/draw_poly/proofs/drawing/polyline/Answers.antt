use Rattle.std.proofs.lemmas.Result.{IfOk-weaker}
use Rattle.draw_poly.proofs.BuildLemmas.{room}
use Rattle.draw_poly.proofs.LaidLemmas.{polyline_by, drawn_by}
use Rattle.draw_poly.proofs.drawing.polyline.Goals as goal

pub dots_and_lines-requires-clause-room : goal.dots_and_lines-requires-clause-room
dots_and_lines-requires-clause-room g c = room c.args.sides.now c.facts.ensures c.local.ensures c.requires.wide

pub returns-clause-picture : goal.returns-clause-picture
returns-clause-picture g c = IfOk-weaker c.dots_and_lines.result _ _
    (λ d q. polyline_by _ _ c.args.sides.now c.in_ok-grid.grid.heights c.in_ok-grid.grid.columns c.in_ok-grid.grid.places c.in_ok-grid.ensures.by c.args.names.now d q)
    c.dots_and_lines.ensures

pub returns-clause-drawn : goal.returns-clause-drawn
returns-clause-drawn g c = IfOk-weaker c.dots_and_lines.result _ _ (λ d V. drawn_by _ _ c.args.sides.now c.local.ensures c.args.names.now c.requires.names d V) (returns-clause-picture g c)
