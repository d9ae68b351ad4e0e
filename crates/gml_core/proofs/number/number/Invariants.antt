use Rattle.std.proofs.Common.{◌≡◌, ◌-◌, ◌^◌, min, take}
use Rattle.gml_core.specs.Reading as spec
use Rattle.gml_core.proofs.number.number.Given as goal

abbrev pub invariant-loop-digit : goal.invariant-loop-digit
invariant-loop-digit l = l.n ≡ min (spec.number (take l.digit-index l.digits)) (2 ^ 64 - 1)
