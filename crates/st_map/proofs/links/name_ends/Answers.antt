use Rattle.std.proofs.Common.{ℕ, ◌+◌, List, refl, sym, subst, arith}
use Rattle.st_map.specs.Links.{AreNamed}
use Rattle.st_map.proofs.LinkLoops.{named_more}
use Rattle.st_map.proofs.links.name_ends.Goals as goal

pub loop-e-preserved : goal.loop-e-preserved
loop-e-preserved c = record {
  named = subst (λ (z : List (ℕ × ℕ)). AreNamed c.insert_reserved-head.new.self (c.loop-e.e + 1) z) (sym c.in_ok-push.ensures.items)
      (named_more c.loop-e.ends c.loop-e.ends c.insert_reserved-tail.new.self c.insert_reserved-head.new.self c.loop-e.e c.loop-e.keys.items
      c.insert_reserved-tail.result c.insert_reserved-head.result c.lone_end.result c.lone_end-in-loop-e.result c.loop-e.invariant.named (λ k. refl)
      c.insert_reserved-tail.ensures.was_vacant c.insert_reserved-tail.ensures.updates c.lone_end.ensures
      c.insert_reserved-head.ensures.was_vacant c.insert_reserved-head.ensures.updates c.lone_end-in-loop-e.ensures);
  count = omega (arith, c.insert_reserved-tail.ensures.len, c.insert_reserved-head.ensures.len, c.loop-e.invariant.count);
  room = omega (arith, c.insert_reserved-tail.ensures.capacity, c.insert_reserved-head.ensures.capacity, c.loop-e.invariant.room);
}
