use Rattle.std.proofs.Common.{◌↔◌, IsTrue, subst}
use Rattle.draw_dom.specs.Pictures.{IsAtMost}
use Rattle.draw_dom.specs.Points.{vertex_point}
use Rattle.draw_dom.proofs.ReadLemmas.{point_at}
use Rattle.draw_dom.proofs.shown.reaches_by.Goals as goal

pub returns : goal.returns
returns c =
    subst (λ p. IsTrue c.is_at_most.result ↔ IsAtMost p (vertex_point c.args.points.now c.args.v.0)) (point_at c.args.points.now c.args.u.0 c.get.result.now c.get.ensures.value)
    (subst (λ q. IsTrue c.is_at_most.result ↔ IsAtMost c.get.result.now q) (point_at c.args.points.now c.args.v.0 c.get-2.result.now c.get-2.ensures.value) c.is_at_most.ensures)
