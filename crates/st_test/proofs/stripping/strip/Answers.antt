use Rattle.std.proofs.Common.{◌-◌, ◌+◌, ◌<◌, ◌≤◌, length, sym, subst, arith}
use Rattle.st_test.specs.StripState.{AreZeros, IsReleasing}
use Rattle.st_test.proofs.StripGoing.{whole_none, whole_all, order-short}
use Rattle.st_test.proofs.stripping.strip.Goals as goal

pub loop-place-init : goal.loop-place-init
loop-place-init c = record {
  size = c.in_ok-degree.ensures.size;
  ready = subst (λ z. IsReleasing c.args.n c.args.ends.now 0 c.in_ok-order.order.items z c.in_ok-degree.degree.items) (sym c.in_ok-edges.ensures.items)
      (whole_none c.args.n c.args.ends.now c.in_ok-degree.degree.items c.in_ok-order.order.items c.in_ok-degree.ensures
      (subst (λ z. AreZeros c.args.n z c.in_ok-order.order.items) c.deref.ensures.value c.in_ok-order.ensures));
}

pub loop-place-smaller : goal.loop-place-smaller
loop-place-smaller c =
    let s : length c.loop-place.order.items ≤ c.args.n =
    order-short c.args.n c.args.ends.now c.loop-place.order.items c.loop-place.edges.items c.loop-place.degree.items c.loop-place.invariant.ready.state in
    let l : c.loop-place.place < c.args.n = omega (arith, c.loop-place-test.true, c.len.ensures, c.loop-place.order.ok.0) in
    let e : c.args.n - (c.loop-place.place + 1) < c.args.n - c.loop-place.place = omega arith in
    e

pub returns : goal.returns
returns c = whole_all c.args.n c.args.ends.now c.loop-place.place c.loop-place.order.items c.loop-place.edges.items c.loop-place.degree.items
    c.loop-place.invariant.ready (omega (arith, c.loop-place-test.false, c.len.ensures, c.loop-place.order.ok.0))
