use Rattle.draw_dom.proofs.ReadLemmas.{point_at}
use Rattle.draw_dom.proofs.items.place.Goals as goal

pub returns : goal.returns
returns c = point_at c.args.points.now c.args.v.0 c.point.result c.point.ensures
