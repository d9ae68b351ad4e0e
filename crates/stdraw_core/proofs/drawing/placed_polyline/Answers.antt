use Rattle.std.proofs.Common.{arith}
use Rattle.std.specs.Prelude.{slice_index}
use Rattle.stdraw_core.proofs.DrawingLemmas.{if_ok, placed_polyline}
use Rattle.stdraw_core.proofs.drawing.placed_polyline.Goals as goal

pub returns : goal.returns
returns g c =
    if_ok c.polyline.result c.polyline.ensures.picture
    (λ d h. placed_polyline _ _ c.args.spot c.args.graph.now.map.graph c.args.graph.now.source c.args.graph.now.sink c.args.graph.now.outer c.args.sides.now c.requires.sides c.local.ensures (omega (arith, c.requires.wide)) (slice_index c.args._lengths.now) c.args.names.now d c.requires.rows c.requires.places h)
