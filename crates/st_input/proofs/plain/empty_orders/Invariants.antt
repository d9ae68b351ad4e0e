use Rattle.std.proofs.Common.{◌≡◌, length, []}
use Rattle.std.specs.Prelude.{replicate}
use Rattle.st_input.proofs.plain.empty_orders.Given as goal

abbrev pub invariant-loop : goal.invariant-loop
invariant-loop l = (l.orders ≡ replicate l.counter []) × (length l.orders ≡ l.counter)
