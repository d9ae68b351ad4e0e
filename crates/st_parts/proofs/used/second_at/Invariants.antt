use Rattle.std.proofs.Common.{◌≡◌, drop, slice_get, if◌then◌else◌}
use Rattle.gml_core.specs.Trees.{listed}
use Rattle.gml_core.specs.Views.{view}
use Rattle.st_parts.specs.Used.{each, place_of}
use Rattle.st_parts.proofs.used.second_at.Given as goal

abbrev pub invariant-loop-i : goal.invariant-loop-i
invariant-loop-i l = slice_get (each l.key place_of (drop l.i (listed (view l.tree)))) (if l.seen then 0 else 1) ≡ slice_get (each l.key place_of (listed (view l.tree))) 1
