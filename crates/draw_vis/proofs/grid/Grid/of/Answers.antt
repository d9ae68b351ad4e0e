use Rattle.std.proofs.Common.{◌∙◌}
use Rattle.draw_vis.proofs.LaidLemmas.{same_edges, by_tables, laid}
use Rattle.draw_vis.proofs.grid.Grid.of.Goals as goal

pub heights-requires-clause-edges : goal.heights-requires-clause-edges
heights-requires-clause-edges g c = c.requires.weights ∙ same_edges _ _ _ _ c.args.sides.now c.requires.sides

pub returns-clause-tables : goal.returns-clause-tables
returns-clause-tables g c = by_tables _ _ _ _ c.args.sides.now c.requires.sides c.local.ensures _ c.args.w.now.most c.in_ok-heights.heights c.in_ok-columns.columns c.in_ok-heights.ensures c.in_ok-columns.ensures

pub returns-clause-laid : goal.returns-clause-laid
returns-clause-laid g c = laid _ _ _ _ c.args.sides.now c.requires.sides c.local.ensures _ c.args.w.now.most c.in_ok-heights.heights c.in_ok-columns.columns c.in_ok-heights.ensures c.in_ok-columns.ensures c.requires.high c.requires.wide
