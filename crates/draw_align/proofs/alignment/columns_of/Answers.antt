use Rattle.std.proofs.Common.{◌+◌, sym, ap, subst, arith, get_or}
use Rattle.st_number.specs.Passing.{IsEdgeOrder, IsPassTable}
use Rattle.st_number.proofs.Public.{edge_order}
use Rattle.draw_align.proofs.BuiltLemmas.{has_homes, columns_acyclic, node_columns, node_count}
use Rattle.draw_align.proofs.alignment.columns_of.Goals as goal

pub build-requires-clause-homes : goal.build-requires-clause-homes
build-requires-clause-homes c = has_homes c.args.sides.now c.local.ensures c.args.paths.now c.args.homes.now.table c.args.homes.now.count (c.faces.result + c.args.homes.now.count) c.requires.paths c.requires.paths.size
    (ap (λ z. z + c.args.homes.now.count) c.faces.ensures.value)

pub build-requires-clause-few : goal.build-requires-clause-few
build-requires-clause-few c =
    let h = node_count c.args.sides.now c.facts.ensures c.local.ensures c.args.paths.now c.requires.few c.requires.wide c.args.homes.now.table c.args.homes.now.count c.requires.paths in
    omega (arith, h, c.faces.ensures.value)

pub topological_order-requires : goal.topological_order-requires
topological_order-requires c = columns_acyclic c.args.sides.now c.local.ensures c.args.paths.now c.requires.sound c.args.homes.now.table c.args.homes.now.count c.requires.paths (c.faces.result + c.args.homes.now.count)
    c.in_ok-graph.graph c.in_ok-graph.ensures

pub pass-requires-clause-order : goal.pass-requires-clause-order
pass-requires-clause-order c =
    subst (λ es. IsEdgeOrder c.in_ok-graph.graph.ends es) (sym c.edges.ensures)
    (edge_order c.in_ok-graph.graph c.in_ok-order.order.vertices c.in_ok-order.order.edges c.in_ok-order.ensures.places)

pub returns : goal.returns
returns c = node_columns c.args.sides.now c.local.ensures c.args.paths.now c.requires.sound c.args.homes.now.table c.args.homes.now.count c.requires.paths (c.faces.result + c.args.homes.now.count)
    (ap (λ z. z + c.args.homes.now.count) c.faces.ensures.value) c.in_ok-graph.graph c.in_ok-graph.ensures c.in_ok-weights.weights c.in_ok-columns.columns c.in_ok-weights.ensures
    (subst (λ z. IsPassTable z c.in_ok-graph.graph.ends (λ a. get_or c.in_ok-weights.weights a 0) c.in_ok-columns.columns) c.in_ok-graph.ensures.vertices c.in_ok-columns.ensures)
