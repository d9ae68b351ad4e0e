use Rattle.std.proofs.Common.{◌≡◌, ◌+◌, ◌-◌, ◌≤◌, length, drop}
use Rattle.std.specs.List.{prefix_len}
use Rattle.gml_core.specs.Bytes.{is_numeric}
use Rattle.gml_core.proofs.lexing.run_len.Given as goal

abbrev pub invariant-loop-n : goal.invariant-loop-n
invariant-loop-n l = (l.n ≤ length l.text) × (l.n + prefix_len is_numeric (drop l.n l.text) ≡ prefix_len is_numeric l.text)

abbrev pub decreases-loop-n : goal.decreases-loop-n
decreases-loop-n l = length l.text - l.n
