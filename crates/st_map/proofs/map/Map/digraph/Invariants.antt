use Rattle.std.proofs.Common.{◌≡◌, take}
use Rattle.st_map.proofs.map.Map.digraph.Given as goal

abbrev pub invariant-loop-e : goal.invariant-loop-e
invariant-loop-e l = record {
  vertices : l.graph.vertices ≡ l.self.graph.vertices;
  ends : l.graph.ends ≡ take l.e l.self.graph.ends;
}
