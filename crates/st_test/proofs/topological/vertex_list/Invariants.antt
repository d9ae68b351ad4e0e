use Rattle.std.proofs.Common.{◌≡◌, take}
use Rattle.st_test.specs.Topological.{vertex_numbers}
use Rattle.st_test.proofs.topological.vertex_list.Given as goal

abbrev pub invariant-loop-k : goal.invariant-loop-k
invariant-loop-k l = vertex_numbers l.list.items ≡ take l.k l.order
