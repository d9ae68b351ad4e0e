use Rattle.std.proofs.Common.{◌≡◌, drop}
use Rattle.gml_core.specs.Trees.{listed}
use Rattle.gml_core.specs.Views.{view}
use Rattle.st_script.specs.Script.{edit_in}
use Rattle.st_script.proofs.records.edit_of.Given as goal

abbrev pub invariant-loop-i : goal.invariant-loop-i
invariant-loop-i l = edit_in (drop l.i (listed (view l.tree))) ≡ edit_in (listed (view l.tree))
