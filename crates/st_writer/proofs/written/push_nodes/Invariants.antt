use Rattle.std.proofs.Common.{◌≡◌, ◌+◌, ◌++◌, map, length}
use Rattle.std.specs.List.{range_with_len}
use Rattle.gml_core.specs.Sound.{IsSound}
use Rattle.gml_core.specs.Trees.{listed}
use Rattle.gml_core.specs.Views.{view}
use Rattle.st_writer.specs.Written.{node_by}
use Rattle.st_writer.proofs.written.push_nodes.Given as goal

abbrev pub invariant-loop-v : goal.invariant-loop-v
invariant-loop-v l = record {
  pairs : listed (view l.graph) ≡ listed (view l.initial.graph) ++ map (node_by l.extent l.spec) (range_with_len 0 l.v);
  count : length (listed (view l.graph)) ≡ length (listed (view l.initial.graph)) + l.v;
  sound : IsSound (view l.graph);
}
