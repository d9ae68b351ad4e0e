use Rattle.std.proofs.Common.{sym, ◌∙◌}
use Rattle.stdraw_core.proofs.DrawingLemmas.{edges_are}
use Rattle.stdraw_core.proofs.drawing.polyline_of.Goals as goal

pub spread-requires-clause-size : goal.spread-requires-clause-size
spread-requires-clause-size c = c.requires.size ∙ edges_are c.args.graph.now c.args.sides.now c.requires.sides

pub spread_polyline-requires-clause-size : goal.spread_polyline-requires-clause-size
spread_polyline-requires-clause-size c = c.in_ok-rows.ensures.spread.size ∙ sym (edges_are c.args.graph.now c.args.sides.now c.requires.sides)
