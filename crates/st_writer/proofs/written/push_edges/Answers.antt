use Rattle.std.proofs.Common.{codes}
use Rattle.gml_core.specs.Trees.{listed}
use Rattle.gml_core.specs.Views.{view}
use Rattle.st_writer.specs.Written.{arc_pairs, arc_by}
use Rattle.st_writer.proofs.WrittenLemmas.{edge_depth, list_pushed, map_more, one_longer}
use Rattle.st_writer.proofs.written.push_edges.Goals as goal

pub push_list-requires-clause-nests : goal.push_list-requires-clause-nests
push_list-requires-clause-nests c = edge_depth c.args.extent c.args.spec.now c.loop-e.e (view c.in_ok-edge.edge) c.in_ok-edge.ensures.pairs

pub loop-e-preserved : goal.loop-e-preserved
loop-e-preserved c =
    let pushed = list_pushed (codes "edge") (view c.loop-e.graph) (view c.push_list.new.self) (view c.in_ok-edge.edge) (arc_pairs c.args.extent c.args.spec.now c.loop-e.e) c.in_ok-edge.ensures.pairs c.in_ok-push_list.ensures.ok in
    record {
      pairs = map_more (arc_by c.args.extent c.args.spec.now) c.loop-e.e (listed (view c.args.graph.now)) (listed (view c.loop-e.graph)) (listed (view c.push_list.new.self)) c.loop-e.invariant.pairs pushed;
      count = one_longer c.loop-e.e (listed (view c.args.graph.now)) (listed (view c.loop-e.graph)) (listed (view c.push_list.new.self)) (arc_by c.args.extent c.args.spec.now c.loop-e.e) c.loop-e.invariant.count pushed;
      sound = c.in_ok-push_list.ensures.sound;
    }
