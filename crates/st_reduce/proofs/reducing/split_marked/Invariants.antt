use Rattle.std.proofs.Common.{◌+◌, ◌≤◌}
use Rattle.st_map.specs.Embedded.{edges}
use Rattle.st_reduce.specs.Marks.{dummy_numbers, marked_below}
use Rattle.st_reduce.specs.Reduced.{Splits}
use Rattle.st_reduce.proofs.reducing.split_marked.Given as goal

abbrev pub invariant-loop-e : goal.invariant-loop-e
invariant-loop-e l = Splits l.fn.map.graph l.e (dummy_numbers l.dummy) l.map.graph × (marked_below l.marks (edges l.fn.map.graph) ≤ l.map.spare + marked_below l.marks l.e)
