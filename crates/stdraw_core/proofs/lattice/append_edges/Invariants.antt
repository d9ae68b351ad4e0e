use Rattle.std.proofs.Common.{◌≡◌, ◌++◌, map, take}
use Rattle.st_ids.specs.EdgeNumbers.{numbers}
use Rattle.st_report.specs.Lines.{spaced}
use Rattle.st_verdict.specs.Verdict.{file_edge_name}
use Rattle.stdraw_core.proofs.lattice.append_edges.Given as goal

-- the names of the edges before i are appended, each behind a space
abbrev pub invariant-loop-i : goal.invariant-loop-i
invariant-loop-i l = l.text ≡ l.initial.text ++ spaced (take l.i (map (file_edge_name l.spec) (numbers l.edges)))
