use Rattle.std.proofs.Common.{◌≡◌, ◌⊎◌, ℕ, ◌<◌, ◌^◌, ◌-◌, length, get_or}
use Rattle.st_map.specs.Orders.{IsOrderAt, order_at}
use Rattle.st_map.proofs.orders.check_orders.Given as goal

abbrev pub invariant-loop-v : goal.invariant-loop-v
invariant-loop-v l = record {
  size : length l.seen.items ≡ length l.ends;
  done : (u : ℕ) → u < l.v → IsOrderAt l.ends u (order_at l.orders u);
  seen : (e : ℕ) → e < length l.ends → (get_or l.seen.items e 0 < l.v) ⊎ (get_or l.seen.items e 0 ≡ 2 ^ 32 - 1);
}
