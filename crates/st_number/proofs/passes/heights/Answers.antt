use Rattle.std.proofs.Common.{ap, subst, get_or}
use Rattle.st_map.specs.Embedded.{MapValue, edges}
use Rattle.st_number.specs.Heights.{AreSums}
use Rattle.st_number.proofs.PassLemmas.{heights_of}
use Rattle.st_number.proofs.passes.heights.Goals as goal

pub returns : goal.returns
returns g c =
    heights_of _ c.args.graph.now.map.graph c.args.graph.now.source c.args.w.now.most (edges c.map.result.now.graph) c.in_ok-taken.taken c.in_ok-sums.sums c.in_ok-heights.heights
    (ap (λ (m : MapValue). edges m.graph) c.map.ensures.value) c.in_ok-taken.ensures
    (subst (λ m. AreSums c.args.graph.now.map.graph c.args.graph.now.source (λ e. get_or c.in_ok-taken.taken e 0) m c.in_ok-sums.sums) c.most.ensures.value c.in_ok-sums.ensures)
    c.in_ok-heights.ensures
