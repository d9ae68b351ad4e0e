use Rattle.draw_align.proofs.BuiltLemmas.{built_more}
use Rattle.draw_align.proofs.alignment.build.Goals as goal

pub loop-a-preserved : goal.loop-a-preserved
loop-a-preserved c = built_more c.args.sides.now c.args.homes.now c.args.n c.loop-a.a c.from_node-tail.result.0 c.to_node-head.result.0 c.loop-a.graph c.add_edge.new.self
    c.loop-a.invariant c.in_ok-add_edge.ensures.ok c.from_node-tail.ensures.value c.to_node-head.ensures.value
