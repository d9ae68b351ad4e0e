use Rattle.std.proofs.Common.{◌≡◌, take}
use Rattle.st_input.proofs.tables.graph_with.Given as goal

abbrev pub invariant-loop-pair : goal.invariant-loop-pair
invariant-loop-pair l = l.graph ≡ record { vertices = l.n; ends = take l.pair-index l.ends }
