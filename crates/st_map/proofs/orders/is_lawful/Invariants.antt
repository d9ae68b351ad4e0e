use Rattle.st_ids.specs.EdgeNumbers.{numbers}
use Rattle.st_map.specs.Tables.{IsLawfulUpTo}
use Rattle.st_map.proofs.orders.is_lawful.Given as goal

abbrev pub invariant-loop-k : goal.invariant-loop-k
invariant-loop-k l = IsLawfulUpTo l.ends l.v (numbers l.list) l.fn.seen l.seen l.k
