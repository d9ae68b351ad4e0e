use Rattle.std.proofs.Common.{◌≡◌, drop}
use Rattle.gml_core.specs.Trees.{listed}
use Rattle.gml_core.specs.Views.{view}
use Rattle.st_parts.specs.Used.{first_with}
use Rattle.st_parts.proofs.used.first_pair.Given as goal

abbrev pub invariant-loop-i : goal.invariant-loop-i
invariant-loop-i l = first_with l.key (drop l.i (listed (view l.tree))) ≡ first_with l.key (listed (view l.tree))
