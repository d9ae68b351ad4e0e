use Rattle.std.proofs.Common.{◌≡◌, map, take}
use Rattle.st_ids.specs.EdgeNumbers.{numbers}
use Rattle.st_verdict.specs.Verdict.{file_edge_name}
use Rattle.st_verdict.proofs.verdict.edge_names.Given as goal

abbrev pub invariant-loop-i : goal.invariant-loop-i
invariant-loop-i l = l.names ≡ map (file_edge_name l.spec) (numbers (take l.i l.edges))
