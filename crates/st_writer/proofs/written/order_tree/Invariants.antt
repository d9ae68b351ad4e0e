use Rattle.std.proofs.Common.{◌≡◌, map, take, length}
use Rattle.gml_core.specs.Sound.{IsSound}
use Rattle.gml_core.specs.Trees.{listed}
use Rattle.gml_core.specs.Views.{view}
use Rattle.st_ids.specs.EdgeNumbers.{numbers}
use Rattle.st_writer.specs.Written.{name_pair}
use Rattle.st_writer.proofs.written.order_tree.Given as goal

abbrev pub invariant-loop-e : goal.invariant-loop-e
invariant-loop-e l = record {
  pairs : listed (view l.tree) ≡ map (name_pair l.names) (numbers (take l.e-index l.order));
  count : length (listed (view l.tree)) ≡ l.e-index;
  sound : IsSound (view l.tree);
}
