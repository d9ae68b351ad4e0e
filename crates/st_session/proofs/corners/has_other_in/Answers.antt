use Rattle.std.proofs.Common.{◌+◌, ◌*◌, subst}
use Rattle.std.specs.Prelude.{◌↔◌, IsTrue}
use Rattle.st_session.specs.Corners.{HasOther}
use Rattle.st_session.proofs.CornerLemmas.{others_in}
use Rattle.st_session.proofs.corners.has_other_in.Goals as goal

pub returns : goal.returns
returns c =
    let h : IsTrue c.has_other.result ↔ HasOther c.args.map.now.graph (2 * c.args.e.0 + 1) = subst (λ d. IsTrue c.has_other.result ↔ HasOther c.args.map.now.graph d) c.head_end.ensures c.has_other.ensures in
    ((λ t. (others_in c.args.map.now.graph c.args.e.0).0 (h.0 t)), (λ o. h.1 ((others_in c.args.map.now.graph c.args.e.0).1 o)))
