use Rattle.std.proofs.lemmas.Result.{IfOk-weaker}
use Rattle.draw_vis.proofs.LaidLemmas.{by_boxes}
use Rattle.draw_vis.proofs.TileLemmas.{tiled_by}
use Rattle.draw_vis.proofs.tiles.tessellation.Goals as goal

pub returns-clause-picture : goal.returns-clause-picture
returns-clause-picture g c = IfOk-weaker c.boxes.result _ _ (λ d q. by_boxes _ c.args.sides.now c.in_ok-grid.grid.heights c.in_ok-grid.grid.columns c.in_ok-grid.ensures.tables c.args.names.now d q) c.boxes.ensures

pub returns-clause-tiles : goal.returns-clause-tiles
returns-clause-tiles g c = IfOk-weaker c.boxes.result _ _ (λ d T. tiled_by _ c.args.sides.now c.local.ensures c.args.names.now c.requires.names d T) (returns-clause-picture g c)
