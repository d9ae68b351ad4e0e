use Rattle.std.proofs.Common.{◌≡◌, ◌+◌, ◌-◌, ◌<◌, ◌≤◌, drop, take}
use Rattle.std.specs.List.{prefix_len}
use Rattle.gml_core.specs.Bytes.{is_numeric}
use Rattle.gml_core.specs.Reading.{number}
use Rattle.gml_core.proofs.Decimals.{AreDigits}
use Rattle.gml_core.proofs.within.short_int.Given as goal

abbrev pub invariant-loop-n : goal.invariant-loop-n
invariant-loop-n l = (l.n ≤ 9) × (l.value < 1000000000) × (l.value ≡ number (take l.n l.rest)) × AreDigits (take l.n l.rest) × (l.n + prefix_len is_numeric (drop l.n l.rest) ≡ prefix_len is_numeric l.rest)

abbrev pub decreases-loop-n : goal.decreases-loop-n
decreases-loop-n l = 9 - l.n
