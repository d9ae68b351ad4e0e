use Rattle.st_sides.specs.Sweep.{AreDualArcs}
use Rattle.st_sides.proofs.sweeping.dual_arcs.Given as goal

abbrev pub invariant-loop-e : goal.invariant-loop-e
invariant-loop-e l = AreDualArcs l.sides l.e l.arcs.items
