use Rattle.std.proofs.Common.{arith, rules, w64, FitsSigned}
use Rattle.std.proofs.lemmas.Int.{to_z-of_z}
use Rattle.st_verdict.proofs.Public.{item_within}
use Rattle.stdraw_core.proofs.LatticeLemmas.{edges_push}
use Rattle.stdraw_core.proofs.lattice.append_edges.Goals as goal

pub name_of_edge-requires : goal.name_of_edge-requires
name_of_edge-requires c = item_within c.args.edges.now _ c.loop-i.i _ (omega arith) c.requires

pub loop-i-preserved : goal.loop-i-preserved
loop-i-preserved c =
    let fit : FitsSigned w64 c.name_of_edge.result = search rules in
    let added = rw (to_z-of_z w64 c.name_of_edge.result fit) at c.in_ok-append_name.ensures in
    edges_push c.args.spec.now c.args.edges.now c.loop-i.i _ c.args.text.now c.loop-i.text c.append_name.new.text c.name_of_edge.result (omega arith) c.name_of_edge.ensures c.loop-i.invariant
    added
