use Rattle.std.proofs.Common.{◌^◌, ◌-◌}
use Rattle.st_test.specs.Tracing.{AreTracedBelow}
use Rattle.st_test.proofs.tracing.faces.Given as goal

abbrev pub invariant-loop-d : goal.invariant-loop-d
invariant-loop-d l = AreTracedBelow l.map.graph (2 ^ 32 - 1) l.d l.orbit l.count
