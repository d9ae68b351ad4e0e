use Rattle.std.proofs.Common.{ap, sym, subst, ◌∙◌}
use Rattle.st_input.specs.EdgeNames.{known_names}
use Rattle.st_input.specs.InputGraph.{IsConsistent}
use Rattle.st_input.specs.Names.{positions}
use Rattle.st_input.proofs.PlainLemmas.{plain_built, plain_fits}
use Rattle.st_input.proofs.graph.GraphSpec.plain.Goals as goal

pub assemble-requires-clause-edge_index : goal.assemble-requires-clause-edge_index
unfolding known_names
assemble-requires-clause-edge_index c = ap positions (c.edges-3.ensures.value ∙ sym c.edges.ensures.value) ∙ sym c.in_ok-positions_table.ensures

pub assemble-requires-clause-consistent : goal.assemble-requires-clause-consistent
assemble-requires-clause-consistent c = subst IsConsistent (sym (plain_built c.args.graph c.vertices.result c.vertices-2.result c.edges.result c.edges-2.result c.in_ok-counted_table.field-0 c.in_ok-positions_table.field-0 c.in_ok-lengths.lengths c.in_ok-no_labels.field-0 c.in_ok-orders.orders c.new-paths.result c.in_ok-counted_table.ensures c.vertices.ensures.value c.in_ok-positions_table.ensures c.edges.ensures.value c.in_ok-no_labels.ensures c.vertices-2.ensures.value c.in_ok-lengths.ensures c.edges-2.ensures.value c.in_ok-orders.ensures c.new-paths.ensures)) (plain_fits c.args.graph c.vertices.ensures.few c.edges.ensures.few)

pub returns-clause-value : goal.returns-clause-value
returns-clause-value c = c.assemble.ensures ∙ plain_built c.args.graph c.vertices.result c.vertices-2.result c.edges.result c.edges-2.result c.in_ok-counted_table.field-0 c.in_ok-positions_table.field-0 c.in_ok-lengths.lengths c.in_ok-no_labels.field-0 c.in_ok-orders.orders c.new-paths.result c.in_ok-counted_table.ensures c.vertices.ensures.value c.in_ok-positions_table.ensures c.edges.ensures.value c.in_ok-no_labels.ensures c.vertices-2.ensures.value c.in_ok-lengths.ensures c.edges-2.ensures.value c.in_ok-orders.ensures c.new-paths.ensures

pub returns-clause-consistent : goal.returns-clause-consistent
returns-clause-consistent c = subst IsConsistent (sym (c.assemble.ensures ∙ (plain_built c.args.graph c.vertices.result c.vertices-2.result c.edges.result c.edges-2.result c.in_ok-counted_table.field-0 c.in_ok-positions_table.field-0 c.in_ok-lengths.lengths c.in_ok-no_labels.field-0 c.in_ok-orders.orders c.new-paths.result c.in_ok-counted_table.ensures c.vertices.ensures.value c.in_ok-positions_table.ensures c.edges.ensures.value c.in_ok-no_labels.ensures c.vertices-2.ensures.value c.in_ok-lengths.ensures c.edges-2.ensures.value c.in_ok-orders.ensures c.new-paths.ensures))) (plain_fits c.args.graph c.vertices.ensures.few c.edges.ensures.few)
