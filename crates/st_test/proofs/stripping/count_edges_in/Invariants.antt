use Rattle.std.proofs.Common.{◌≡◌, ℕ, ◌<◌, length, get_or}
use Rattle.st_map.specs.Counting.{count_below}
use Rattle.st_map.specs.Tables.{enters}
use Rattle.st_test.proofs.stripping.count_edges_in.Given as goal

abbrev pub invariant-loop-e : goal.invariant-loop-e
invariant-loop-e l = record {
  size : length l.degree.items ≡ l.n;
  each : (v : ℕ) → v < l.n → get_or l.degree.items v 0 ≡ count_below l.e (enters l.ends v);
}
