use Rattle.std.proofs.Common.{◌<◌, ◌^◌, length, ◌∙◌, arith}
use Rattle.gml_core.specs.Views.{view}
use Rattle.st_writer.proofs.WrittenLemmas.{graph_depth, graph_made, nodes_room, outer_room, pairs_are}
use Rattle.st_writer.proofs.written.graph_tree.Goals as goal

pub push_edges-requires-clause-room : goal.push_edges-requires-clause-room
push_edges-requires-clause-room c =
    let g = c.args.spec.now in
    let n : c.args.spec.now.graph.vertices < 2 ^ 30 = omega (arith, c.names-names.ensures.few, c.names-names.ensures.vertices) in
    let m : length c.args.spec.now.graph.ends < 2 ^ 30 = omega (arith, c.names-names.ensures.few_edges, c.names-names.ensures.edges) in
    nodes_room c.args.extent g (view c.push_outer.new.graph) (view c.push_nodes.new.graph)
    (outer_room c.args.extent g (view c.in_ok-graph.graph) (view c.push_number.new.tree) (view c.push_outer.new.graph) _ _ n m c.requires.writable c.in_ok-graph.ensures.empty c.names-names.ensures.edge c.outer_shown.ensures.value c.in_ok-push_number.ensures.pairs c.in_ok-push_outer.ensures.pairs)
    c.in_ok-push_nodes.ensures.pairs

pub returns-clause-pairs : goal.returns-clause-pairs
returns-clause-pairs c =
    let g = c.args.spec.now in
    graph_made c.args.extent g (view c.in_ok-graph.graph) (view c.push_number.new.tree) (view c.push_outer.new.graph) (view c.push_nodes.new.graph) (view c.push_edges.new.graph) _ _ c.in_ok-graph.ensures.empty c.names-names.ensures.edge c.outer_shown.ensures.value
    c.in_ok-push_number.ensures.pairs c.in_ok-push_outer.ensures.pairs c.in_ok-push_nodes.ensures.pairs c.in_ok-push_edges.ensures.pairs
    ∙ pairs_are c.args.extent g c.names-names.ensures.vertices

pub returns-clause-nests : goal.returns-clause-nests
returns-clause-nests c =
    let g = c.args.spec.now in
    graph_depth c.args.extent g (view c.push_edges.new.graph) (graph_made c.args.extent g (view c.in_ok-graph.graph) (view c.push_number.new.tree) (view c.push_outer.new.graph) (view c.push_nodes.new.graph) (view c.push_edges.new.graph) _ _ c.in_ok-graph.ensures.empty c.names-names.ensures.edge c.outer_shown.ensures.value
    c.in_ok-push_number.ensures.pairs c.in_ok-push_outer.ensures.pairs c.in_ok-push_nodes.ensures.pairs c.in_ok-push_edges.ensures.pairs)
