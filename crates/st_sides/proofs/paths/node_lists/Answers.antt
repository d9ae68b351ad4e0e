use Rattle.std.proofs.Common.{List, [], ◌∷◌, ◌++◌, ◌∙◌, ap}
use Rattle.st_ids.specs.EdgeNumbers.{numbers}
use Rattle.st_ids.specs.declared.ids.EdgeId.{EdgeId}
use Rattle.st_sides.proofs.NodeListLemmas.{nodes_more}
use Rattle.st_sides.proofs.paths.node_lists.Goals as goal

pub loop-f-preserved : goal.loop-f-preserved
loop-f-preserved c =
    nodes_more c.args.graph.now.map.graph c.args.graph.now.source c.args.graph.now.sink c.args.graph.now.outer c.loop-f.f
    c.loop-f.lows c.push.new.self c.loop-f.highs c.push-in-loop-f.new.self c.loop-f.lefts c.push_edges.new.self c.loop-f.rights c.push_edges-in-loop-f.new.self
    c.in_ok-low.low c.in_ok-low.high (numbers c.node_sides.new.left.items) (numbers c.node_sides.new.right.items) c.loop-f.invariant c.in_ok-low.ensures
    c.in_ok-push.ensures.ok c.in_ok-push-2.ensures.ok
    (c.in_ok-push_edges.ensures.ok ∙ ap (λ (z : List EdgeId). c.loop-f.lefts ++ numbers z ∷ []) c.deref-in-loop-f.ensures.value)
    (c.in_ok-push_edges-2.ensures.ok ∙ ap (λ (z : List EdgeId). c.loop-f.rights ++ numbers z ∷ []) c.deref-in-loop-f-2.ensures.value)
