use Rattle.std.proofs.Common.{◌≡◌, ◌<◌, ℕ, length, get_or}
use Rattle.st_sides.specs.Sides.{ins}
use Rattle.st_order.proofs.traversal.degrees.Given as goal

abbrev pub invariant-loop-i : goal.invariant-loop-i
invariant-loop-i l = record {
  size : length l.degree ≡ l.n;
  each : (v : ℕ) → v < l.i → get_or l.degree v 0 ≡ length (ins l.sides v);
}
