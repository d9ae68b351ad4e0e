use Rattle.std.proofs.Common.{◌≡◌, ℕ, ◌<◌, length, get_or}
use Rattle.st_ids.specs.Graph.{tail_of}
use Rattle.st_map.specs.Tables.{leaves}
use Rattle.st_test.specs.Stripping.{last_below}
use Rattle.st_test.proofs.stripping.link_edges.Given as goal

abbrev pub invariant-loop-e : goal.invariant-loop-e
invariant-loop-e l = record {
  last_size : length l.last.items ≡ l.n;
  before_size : length l.before.items ≡ l.e;
  lasts : (v : ℕ) → v < l.n → get_or l.last.items v 0 ≡ last_below l.e (leaves l.ends v);
  befores : (d : ℕ) → d < l.e → get_or l.before.items d 0 ≡ last_below d (leaves l.ends (tail_of l.ends d));
}
