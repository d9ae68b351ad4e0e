use Rattle.std.proofs.Common.{sym, arith}
use Rattle.std.proofs.lemmas.Int.{ints, clamps}
use Rattle.st_shape.proofs.meeting.overlap.Goals as goal

pub returns-then-min-max : goal.returns-then-min-max
returns-then-min-max c = (λ t. omega (arith, ints, clamps), λ h. sym (omega (arith, ints, clamps)))
