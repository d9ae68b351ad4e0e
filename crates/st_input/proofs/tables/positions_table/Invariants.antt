use Rattle.std.proofs.Common.{◌≡◌, length}
use Rattle.st_input.specs.Names.{positions}
use Rattle.st_input.proofs.tables.positions_table.Given as goal

abbrev pub invariant-loop-i : goal.invariant-loop-i
invariant-loop-i l = (l.names ≡ positions l.i) × (length l.names ≡ l.i)
