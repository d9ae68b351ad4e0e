use Rattle.std.proofs.Common.{List, [], ◌∷◌, ◌++◌, ◌∙◌, ap}
use Rattle.st_ids.specs.EdgeNumbers.{numbers}
use Rattle.st_ids.specs.declared.ids.EdgeId.{EdgeId}
use Rattle.st_sides.specs.Conditions.{AreOuts, AreIns}
use Rattle.st_sides.proofs.StartLemmas.{filled_more}
use Rattle.st_sides.proofs.stars.stars.Goals as goal

pub loop-v-preserved : goal.loop-v-preserved
loop-v-preserved c = record {
  outs = filled_more [] (λ v es. AreOuts c.args.graph.now.map.graph c.args.graph.now.source c.args.graph.now.outer v es) c.loop-v.v c.loop-v.all_outs c.push_edges.new.self (numbers c.star.new.outs.items)
      c.loop-v.invariant.outs (c.in_ok-push_edges.ensures.ok ∙ ap (λ (z : List EdgeId). c.loop-v.all_outs ++ numbers z ∷ []) c.deref-in-loop-v.ensures.value) c.in_ok-star.ensures.outs;
  ins = filled_more [] (λ v es. AreIns c.args.graph.now.map.graph c.args.graph.now.sink c.args.graph.now.outer v es) c.loop-v.v c.loop-v.all_ins c.push_edges-in-loop-v.new.self (numbers c.star.new.ins.items)
      c.loop-v.invariant.ins (c.in_ok-push_edges-2.ensures.ok ∙ ap (λ (z : List EdgeId). c.loop-v.all_ins ++ numbers z ∷ []) c.deref-in-loop-v-2.ensures.value) c.in_ok-star.ensures.ins;
}
