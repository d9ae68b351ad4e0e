use Rattle.std.proofs.Common.{◌≡◌, length}
use Rattle.st_input.specs.Plain.{counted}
use Rattle.st_input.proofs.plain.counted_table.Given as goal

abbrev pub invariant-loop-v : goal.invariant-loop-v
invariant-loop-v l = (l.names ≡ counted l.v) × (length l.names ≡ l.v)
