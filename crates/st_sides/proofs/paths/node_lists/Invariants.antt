use Rattle.st_sides.specs.NodeSides.{AreNodeLists}
use Rattle.st_sides.proofs.paths.node_lists.Given as goal

abbrev pub invariant-loop-f : goal.invariant-loop-f
invariant-loop-f l = AreNodeLists l.graph.map.graph l.graph.source l.graph.sink l.graph.outer l.f l.lows l.highs l.lefts l.rights
