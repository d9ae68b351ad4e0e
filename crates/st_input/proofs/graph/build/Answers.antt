use Rattle.std.proofs.Common.{◌≡◌, ◌∙◌, subst, sym, length, arith}
use Rattle.st_input.specs.InputGraph.{IsConsistent}
use Rattle.st_input.proofs.BuildLemmas.{built}
use Rattle.st_input.proofs.graph.build.Goals as goal

pub assemble-requires-clause-consistent : goal.assemble-requires-clause-consistent
assemble-requires-clause-consistent c =
    let count : c.len.result ≡ length c.args.parts.nodes = omega arith in
    subst IsConsistent (sym (built c.args.parts c.args.found c.in_ok-graph.graph c.len.result c.as_slice.result.now c.as_slice-2.result.now c.as_slice-3.result.now c.ends.result.now c.in_ok-orders.orders c.in_ok-vertex_table.field-0 c.in_ok-edge_table.field-0 c.requires.found c.in_ok-graph.ensures count c.as_slice.ensures c.ends.ensures.value c.in_ok-orders.ensures.size c.in_ok-orders.ensures.orders c.as_slice-2.ensures c.in_ok-vertex_table.ensures c.as_slice-3.ensures c.in_ok-edge_table.ensures)) c.requires.consistent

pub returns : goal.returns
returns c =
    let count : c.len.result ≡ length c.args.parts.nodes = omega arith in
    c.assemble.ensures ∙ built c.args.parts c.args.found c.in_ok-graph.graph c.len.result c.as_slice.result.now c.as_slice-2.result.now c.as_slice-3.result.now c.ends.result.now c.in_ok-orders.orders c.in_ok-vertex_table.field-0 c.in_ok-edge_table.field-0 c.requires.found c.in_ok-graph.ensures count c.as_slice.ensures c.ends.ensures.value c.in_ok-orders.ensures.size c.in_ok-orders.ensures.orders c.as_slice-2.ensures c.in_ok-vertex_table.ensures c.as_slice-3.ensures c.in_ok-edge_table.ensures
