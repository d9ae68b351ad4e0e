use Rattle.std.proofs.Common.{◌≡◌, ◌<◌, ◌^◌, get_or, sym, ap, ◌∙◌, subst, arith}
use Rattle.st_map.specs.Embedded.{MapValue, bare}
use Rattle.st_ids.specs.Graph.{Graph}
use Rattle.st_number.specs.Passing.{IsEdgeOrder, IsPassTable}
use Rattle.st_number.proofs.PassLemmas.{edge_order, sums_of}
use Rattle.st_number.proofs.passes.sum_up.Goals as goal

pub pass-requires-clause-order : goal.pass-requires-clause-order
pass-requires-clause-order c =
    subst (λ es. IsEdgeOrder c.in_ok-copy.copy.ends es) (sym c.edges.ensures)
    (edge_order c.in_ok-copy.copy c.in_ok-order.order.vertices c.in_ok-order.order.edges c.in_ok-order.ensures.places)

pub returns : goal.returns
returns c =
    let is : c.in_ok-copy.copy ≡ bare c.args.graph.now.map.graph = c.in_ok-copy.ensures.value ∙ ap (λ (m : MapValue). bare m.graph) c.map.ensures.value in
    sums_of c.args.graph.now.map.graph c.args.graph.now.source c.args.graph.now.sink c.args.graph.now.outer c.map.ensures.planar (λ e. get_or c.args.taken.now e 0) c.args.most c.in_ok-sums.sums
    (subst (λ (d : Graph). d.vertices < 2 ^ 30) is c.in_ok-copy.ensures.few_vertices)
    (λ e l. c.requires.weights e (omega (arith, l, c.requires.size)))
    (subst (λ (d : Graph). IsPassTable d.vertices d.ends (λ e. get_or c.args.taken.now e 0) c.in_ok-sums.sums) is c.in_ok-sums.ensures)
