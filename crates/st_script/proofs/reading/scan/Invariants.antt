use Rattle.std.proofs.Common.{◌≡◌, ◌++◌, Some, drop, map}
use Rattle.gml_core.specs.Trees.{listed}
use Rattle.gml_core.specs.Views.{view}
use Rattle.st_script.specs.Script.{first_bad, said}
use Rattle.st_script.proofs.reading.scan.Given as goal

abbrev pub invariant-loop-i : goal.invariant-loop-i
invariant-loop-i l = record {
  said : map Some l.items ++ said (drop l.i (listed (view l.tree))) ≡ said (listed (view l.tree));
  good : first_bad (drop l.i (listed (view l.tree))) ≡ first_bad (listed (view l.tree));
}
