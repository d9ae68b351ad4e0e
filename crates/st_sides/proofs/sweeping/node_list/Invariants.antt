use Rattle.std.proofs.Common.{◌≡◌, take}
use Rattle.st_test.specs.Topological.{vertex_numbers}
use Rattle.st_sides.specs.Sweep.{node_numbers}
use Rattle.st_sides.proofs.sweeping.node_list.Given as goal

abbrev pub invariant-loop-v : goal.invariant-loop-v
invariant-loop-v l = node_numbers l.list.items ≡ vertex_numbers (take l.v-index l.order)
