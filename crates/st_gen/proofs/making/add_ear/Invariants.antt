use Rattle.std.proofs.Common.{◌≡◌, ◌<◌, ◌+◌, ◌-◌, ◌++◌, length}
use Rattle.st_gen.specs.Made.{ear_edges}
use Rattle.st_gen.proofs.making.add_ear.Given as goal

abbrev pub invariant-loop-v : goal.invariant-loop-v
invariant-loop-v l = record {
  vertices : l.graph.vertices ≡ l.fn.graph.vertices;
  last : l.last < l.v;
  few : length l.graph.ends + l.fn.first ≡ length l.fn.graph.ends + l.v;
  edges : l.graph.ends ++ ear_edges l.last l.v (l.fn.first + l.fn.many - l.v) l.fn.to ≡ l.fn.graph.ends ++ ear_edges l.fn.from l.fn.first l.fn.many l.fn.to;
}
