use Rattle.std.specs.Prelude.{All}
use Rattle.st_ids.specs.Lengths.{IsLength}
use Rattle.st_number.proofs.number_tests.lengths_of.Given as goal

abbrev pub invariant-loop-n : goal.invariant-loop-n
invariant-loop-n l = All IsLength l.list
