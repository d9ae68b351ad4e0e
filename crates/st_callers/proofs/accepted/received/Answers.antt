use Rattle.std.proofs.Common.{subst, sym}
use Rattle.st_callers.specs.Accepted.{IsReceived}
use Rattle.st_callers.proofs.AcceptedLemmas.{no_graph, no_planar_graph}
use Rattle.st_callers.proofs.accepted.received.Goals as goal

pub returns-in-Err : goal.returns-in-Err
returns-in-Err c = subst (λ z. IsReceived c.args.bytes.now z) (sym c.stopped.ensures) (no_graph c.args.bytes.now c.in-Err.stop c.in-Err.ensures.gives)

pub returns : goal.returns
returns c = subst (λ z. IsReceived c.args.bytes.now z) (sym c.stopped-in-Err-accept.ensures)
    (no_planar_graph c.args.bytes.now c.in-Ok.graph c.in-Ok.ensures.gives c.in-Err-accept.stop c.in-Err-accept.ensures)
