use Rattle.std.proofs.Common.{◌≡◌, ◌-◌, length}
use Rattle.st_test.specs.StripState.{IsReleasing}
use Rattle.st_test.proofs.stripping.strip.Given as goal

abbrev pub invariant-loop-place : goal.invariant-loop-place
invariant-loop-place l = record {
  size : length l.degree.items ≡ l.n;
  ready : IsReleasing l.n l.ends l.place l.order.items l.edges.items l.degree.items;
}

abbrev pub decreases-loop-place : goal.decreases-loop-place
decreases-loop-place l = l.n - l.place
