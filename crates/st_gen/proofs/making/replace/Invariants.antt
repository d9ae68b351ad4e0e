use Rattle.std.proofs.Common.{◌≡◌, ◌≤◌, ◌+◌, ◌-◌, ◌++◌, take, drop}
use Rattle.st_gen.specs.Made.{range}
use Rattle.st_gen.proofs.making.replace.Given as goal

abbrev pub invariant-loop : goal.invariant-loop
invariant-loop l = record {
  low : l.at ≤ l.counter;
  row : l.row ≡ take l.at l.fn.row ++ drop l.counter l.fn.row;
}

abbrev pub invariant-loop-k : goal.invariant-loop-k
invariant-loop-k l = l.row ≡ take l.at l.fn.row ++ (range (l.first + (l.many - l.k)) l.k ++ drop l.end l.fn.row)
