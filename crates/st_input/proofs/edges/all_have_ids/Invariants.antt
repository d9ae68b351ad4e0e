use Rattle.std.proofs.Common.{◌≡◌, drop}
use Rattle.st_input.specs.Faults.{all_named}
use Rattle.st_input.proofs.edges.all_have_ids.Given as goal

abbrev pub invariant-loop-edge : goal.invariant-loop-edge
invariant-loop-edge l = all_named (drop l.edge-index l.edges) ≡ all_named l.edges
