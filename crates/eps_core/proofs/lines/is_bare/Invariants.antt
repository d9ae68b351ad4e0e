use Rattle.std.proofs.Common.{◌≡◌, ◌++◌, take, drop}
use Rattle.eps_core.specs.Text.{escaped}
use Rattle.eps_core.proofs.lines.is_bare.Given as goal

-- no byte before b needs a backslash
abbrev pub invariant-loop-b : goal.invariant-loop-b
invariant-loop-b l = escaped l.text ≡ take l.b-index l.text ++ escaped (drop l.b-index l.text)
