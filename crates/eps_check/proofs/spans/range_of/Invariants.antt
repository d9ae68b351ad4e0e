use Rattle.std.proofs.Common.{◌≡◌, ◌<◌, ◌≤◌, ℕ, nat_abs, slice_get, Some}
use Rattle.st_shape.specs.declared.point.Point.{Point}
use Rattle.eps_check.proofs.spans.range_of.Given as goal

abbrev pub invariant-loop-m : goal.invariant-loop-m
invariant-loop-m l = (j : ℕ) (v : Point) → j < l.m → slice_get l.points j ≡ Some v → (l.low ≤ nat_abs v.y) × (nat_abs v.y ≤ l.high)
