use Rattle.std.proofs.Common.{◌≡◌, ◌++◌, ◌≤◌, drop, length, codes, option_map, IfSome}
use Rattle.std.specs.Option.{option_or}
use Rattle.gml_core.specs.Trees.{listed}
use Rattle.gml_core.specs.Views.{view, entry_view}
use Rattle.st_parts.specs.Kinds.{earlier, earliest, part_wrong}
use Rattle.st_parts.specs.Parts.{node_in, label_in, edge_in, path_in}
use Rattle.st_parts.specs.Used.{HasSoundList, datum_of, each, first_with}
use Rattle.st_parts.proofs.parts.scan_list.Given as goal

abbrev pub invariant-loop-i : goal.invariant-loop-i
invariant-loop-i l = record {
  nodes : l.lists.nodes ++ each (codes "node") node_in (drop l.i (listed (view l.tree))) ≡ each (codes "node") node_in (listed (view l.tree));
  labels : l.lists.labels ++ each (codes "node") label_in (drop l.i (listed (view l.tree))) ≡ each (codes "node") label_in (listed (view l.tree));
  edges : l.lists.edges ++ each (codes "edge") edge_in (drop l.i (listed (view l.tree))) ≡ each (codes "edge") edge_in (listed (view l.tree));
  paths : l.lists.paths ++ each (codes "path") path_in (drop l.i (listed (view l.tree))) ≡ each (codes "path") path_in (listed (view l.tree));
  few_nodes : length l.lists.nodes ≤ l.i;
  few_labels : length l.lists.labels ≤ l.i;
  few_edges : length l.lists.edges ≤ l.i;
  few_paths : length l.lists.paths ≤ l.i;
  wrong : earlier l.lists.wrong (earliest part_wrong (drop l.i (listed (view l.tree)))) ≡ earliest part_wrong (listed (view l.tree));
  outer : option_or (option_map (λ p. entry_view p.now) l.outer) (first_with (codes "outer") (drop l.i (listed (view l.tree)))) ≡ first_with (codes "outer") (listed (view l.tree));
  sound : IfSome l.outer (λ p. HasSoundList (datum_of (entry_view p.now)));
}
