use Rattle.std.proofs.Common.{◌*◌, subst}
use Rattle.std.specs.Prelude.{◌↔◌, IsTrue}
use Rattle.st_session.specs.Corners.{HasOther}
use Rattle.st_session.proofs.CornerLemmas.{others_out}
use Rattle.st_session.proofs.corners.has_other_out.Goals as goal

pub returns : goal.returns
returns c =
    let h : IsTrue c.has_other.result ↔ HasOther c.args.map.now.graph (2 * c.args.e.0) = subst (λ d. IsTrue c.has_other.result ↔ HasOther c.args.map.now.graph d) c.tail_end.ensures c.has_other.ensures in
    ((λ t. (others_out c.args.map.now.graph c.args.e.0).0 (h.0 t)), (λ o. h.1 ((others_out c.args.map.now.graph c.args.e.0).1 o)))
