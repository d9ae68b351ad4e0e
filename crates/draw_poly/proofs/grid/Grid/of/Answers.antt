use Rattle.std.proofs.Common.{◌∙◌}
use Rattle.draw_poly.proofs.LaidLemmas.{same_edges, by_tables, tables_are}
use Rattle.draw_poly.proofs.grid.Grid.of.Goals as goal

pub heights-requires-clause-edges : goal.heights-requires-clause-edges
heights-requires-clause-edges g c = c.requires.weights ∙ same_edges _ _ _ _ c.args.sides.now c.requires.sides

pub returns-clause-by : goal.returns-clause-by
returns-clause-by g c = by_tables _ _ _ _ c.args.sides.now c.requires.sides c.local.ensures _ c.requires.long c.args.w.now.most c.in_ok-heights.heights c.in_ok-columns.columns c.in_ok-heights.ensures c.in_ok-columns.ensures _ c.in_ok-places.places c.in_ok-places.ensures

pub returns-clause-tables : goal.returns-clause-tables
returns-clause-tables g c = tables_are _ _ _ _ c.args.sides.now c.requires.sides c.local.ensures _ c.requires.long c.args.w.now.most c.in_ok-heights.heights c.in_ok-columns.columns c.in_ok-heights.ensures c.in_ok-columns.ensures _ c.in_ok-places.places c.in_ok-places.ensures c.requires.high c.requires.wide
