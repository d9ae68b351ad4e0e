use Rattle.std.proofs.Common.{[]}
use Rattle.st_sides.specs.Conditions.{AreOuts, AreIns}
use Rattle.st_sides.specs.Filled.{IsFilled}
use Rattle.st_sides.proofs.stars.stars.Given as goal

abbrev pub invariant-loop-v : goal.invariant-loop-v
invariant-loop-v l = record {
  outs : IsFilled [] (λ v es. AreOuts l.graph.map.graph l.graph.source l.graph.outer v es) l.v l.all_outs;
  ins : IsFilled [] (λ v es. AreIns l.graph.map.graph l.graph.sink l.graph.outer v es) l.v l.all_ins;
}
