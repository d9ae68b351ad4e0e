use Rattle.std.proofs.Common.{◌≡◌, take}
use Rattle.st_ids.specs.EdgeNumbers.{numbers}
use Rattle.st_test.proofs.topological.edge_list.Given as goal

abbrev pub invariant-loop-k : goal.invariant-loop-k
invariant-loop-k l = numbers l.list.items ≡ take l.k l.order
