use Rattle.std.proofs.Common.{[], get_or}
use Rattle.st_sides.specs.Beside.{IsBeside}
use Rattle.st_sides.proofs.StartLemmas.{filled_more}
use Rattle.st_sides.proofs.beside.vertex_nodes.Goals as goal

pub loop-v-preserved : goal.loop-v-preserved
loop-v-preserved c =
    filled_more 0 (λ v z. IsBeside c.args.graph.now.source c.args.graph.now.sink c.args.nodes.now c.args.right c.args.half (get_or c.args.outs.now v []) v z) c.loop-v.v c.loop-v.list c.push.new.self c.beside.result
    c.loop-v.invariant c.in_ok-push.ensures.ok c.beside.ensures
