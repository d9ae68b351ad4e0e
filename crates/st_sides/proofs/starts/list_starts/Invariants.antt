use Rattle.st_sides.specs.Filled.{AreStarts}
use Rattle.st_sides.proofs.starts.list_starts.Given as goal

abbrev pub invariant-loop-d : goal.invariant-loop-d
invariant-loop-d l = AreStarts l.graph.map.graph l.face l.d l.starts.items
