use Rattle.std.proofs.Common.{sym, ap, ◌∙◌}
use Rattle.st_map.specs.Embedded.{at}
use Rattle.st_map.proofs.Public.{at-head, at-tail}
use Rattle.st_session.proofs.corners.end_of.Goals as goal

pub returns-then-tail-v-clause-vertex : goal.returns-then-tail-v-clause-vertex
returns-then-tail-v-clause-vertex c = ap (at c.args.map.now.graph) c.tail_end.ensures ∙ at-tail c.args.map.now.graph c.args.e.0 ∙ sym c.tail.ensures.value ∙ c.if-tail-v.true

pub returns-then-head-v-clause-vertex : goal.returns-then-head-v-clause-vertex
returns-then-head-v-clause-vertex c = ap (at c.args.map.now.graph) c.head_end.ensures ∙ at-head c.args.map.now.graph c.args.e.0 ∙ sym c.head.ensures.value ∙ c.if-head-v.true
