use Rattle.std.proofs.Common.{◌≡◌, ◌++◌, take}
use Rattle.eps_core.specs.Text.{ended}
use Rattle.eps_core.proofs.cutting.match_lines.Given as goal

abbrev pub invariant-loop-k : goal.invariant-loop-k
invariant-loop-k l = l.bytes ≡ ended (take l.k l.lines) ++ l.rest
