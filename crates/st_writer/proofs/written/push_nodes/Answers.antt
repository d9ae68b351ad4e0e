use Rattle.std.proofs.Common.{codes}
use Rattle.gml_core.specs.Trees.{listed}
use Rattle.gml_core.specs.Views.{view}
use Rattle.st_writer.specs.Written.{node_by, vertex_pairs}
use Rattle.st_writer.proofs.WrittenLemmas.{node_depth, list_pushed, map_more, one_longer}
use Rattle.st_writer.proofs.written.push_nodes.Goals as goal

pub push_list-requires-clause-nests : goal.push_list-requires-clause-nests
push_list-requires-clause-nests c = node_depth c.args.extent c.args.spec.now c.loop-v.v (view c.in_ok-node.node) c.in_ok-node.ensures.pairs

pub loop-v-preserved : goal.loop-v-preserved
loop-v-preserved c =
    let pushed = list_pushed (codes "node") (view c.loop-v.graph) (view c.push_list.new.self) (view c.in_ok-node.node) (vertex_pairs c.args.extent c.args.spec.now c.loop-v.v) c.in_ok-node.ensures.pairs c.in_ok-push_list.ensures.ok in
    record {
      pairs = map_more (node_by c.args.extent c.args.spec.now) c.loop-v.v (listed (view c.args.graph.now)) (listed (view c.loop-v.graph)) (listed (view c.push_list.new.self)) c.loop-v.invariant.pairs pushed;
      count = one_longer c.loop-v.v (listed (view c.args.graph.now)) (listed (view c.loop-v.graph)) (listed (view c.push_list.new.self)) (node_by c.args.extent c.args.spec.now c.loop-v.v) c.loop-v.invariant.count pushed;
      sound = c.in_ok-push_list.ensures.sound;
    }
