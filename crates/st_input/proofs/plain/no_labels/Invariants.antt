use Rattle.std.proofs.Common.{◌≡◌, length, None}
use Rattle.std.specs.Prelude.{replicate}
use Rattle.st_input.proofs.plain.no_labels.Given as goal

abbrev pub invariant-loop : goal.invariant-loop
invariant-loop l = (l.labels ≡ replicate l.counter None) × (length l.labels ≡ l.counter)
