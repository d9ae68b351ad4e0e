use Rattle.std.proofs.Common.{◌≡◌, ◌++◌, drop, codes}
use Rattle.gml_core.specs.Trees.{listed}
use Rattle.gml_core.specs.Views.{view}
use Rattle.st_parts.specs.Kinds.{earlier, names_wrong}
use Rattle.st_parts.specs.Parts.{name_in}
use Rattle.st_parts.specs.Used.{each}
use Rattle.st_parts.proofs.mentions.names_of.Given as goal

abbrev pub invariant-loop-i : goal.invariant-loop-i
invariant-loop-i l = record {
  said : l.names ++ each (codes "e") name_in (drop l.i (listed (view l.tree))) ≡ each (codes "e") name_in (listed (view l.tree));
  wrong : earlier l.wrong (names_wrong (drop l.i (listed (view l.tree)))) ≡ names_wrong (listed (view l.tree));
}
