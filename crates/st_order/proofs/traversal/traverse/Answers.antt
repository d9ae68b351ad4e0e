use Rattle.std.proofs.Common.{◌≡◌, ◌≤◌, ◌-◌, length, ap, ◌∙◌, arith}
use Rattle.st_sides.specs.Sides.{outs}
use Rattle.st_order.proofs.StackLemmas.{top, at_head, read, going_start, going_pass, going_number, going_end, untaken_falls}
use Rattle.st_order.proofs.traversal.traverse.Goals as goal

pub loop-e-init : goal.loop-e-init
loop-e-init c =
    going_start c.local.ensures c.outs.result.now c.put.new.stack.items c.in_ok-waiting.waiting c.in_ok-number.number
    (c.outs.ensures.value ∙ ap (outs c.args.sides.now) (c.low-source.ensures.value ∙ c.local.ensures.low_s))
    (rw c.new-stack.ensures.items at c.in_ok-put.ensures)
    c.in_ok-waiting.ensures.size
    c.in_ok-waiting.ensures.each
    (rw c.vertices.ensures.value at c.in_ok-number.ensures)

pub head-v-requires : goal.head-v-requires
head-v-requires c = (top c.local.ensures c.pop.new.self.items c.in-Some.e c.loop-e.invariant c.in-Some.ensures.items).is_arc

pub get-requires : goal.get-requires
get-requires c = (at_head c.local.ensures c.pop.new.self.items c.in-Some.e c.loop-e.invariant c.in-Some.ensures.items c.head-v.ensures.value).in_waiting

pub overflow_sub-left : goal.overflow_sub-left
overflow_sub-left c = (read c.local.ensures c.pop.new.self.items c.in-Some.e c.loop-e.invariant c.in-Some.ensures.items c.head-v.ensures.value c.get.ensures.read).positive

pub set-requires : goal.set-requires
set-requires c = (at_head c.local.ensures c.pop.new.self.items c.in-Some.e c.loop-e.invariant c.in-Some.ensures.items c.head-v.ensures.value).in_waiting

pub set-requires-then-left-eq0 : goal.set-requires-then-left-eq0
set-requires-then-left-eq0 c = (at_head c.local.ensures c.pop.new.self.items c.in-Some.e c.loop-e.invariant c.in-Some.ensures.items c.head-v.ensures.value).in_numbered

pub overflow_add-next : goal.overflow_add-next
overflow_add-next c =
    let n : c.loop-e.next ≤ c.args.sides.now.vertices = (top c.local.ensures c.pop.new.self.items c.in-Some.e c.loop-e.invariant c.in-Some.ensures.items).next_in in
    omega (arith, c.vertices.ensures.value, c.vertices.ensures.few)

pub outs-requires-then-left-eq0 : goal.outs-requires-then-left-eq0
outs-requires-then-left-eq0 c = (at_head c.local.ensures c.pop.new.self.items c.in-Some.e c.loop-e.invariant c.in-Some.ensures.items c.head-v.ensures.value).in_graph

pub loop-e-smaller-in-Continue-branch-4 : goal.loop-e-smaller-in-Continue-branch-4
loop-e-smaller-in-Continue-branch-4 c = rw c.set.ensures
    (untaken_falls c.local.ensures c.pop.new.self.items c.in-Some.e c.loop-e.invariant c.in-Some.ensures.items (c.get.result.now - 1) c.head-v.ensures.value (read c.local.ensures c.pop.new.self.items c.in-Some.e c.loop-e.invariant c.in-Some.ensures.items c.head-v.ensures.value c.get.ensures.read).left)

pub loop-e-preserved-in-Continue-branch-4 : goal.loop-e-preserved-in-Continue-branch-4
loop-e-preserved-in-Continue-branch-4 c = rw (c.set.ensures, c.set-then-left-eq0.ensures)
    (going_number c.local.ensures c.pop.new.self.items c.in-Some.e c.loop-e.invariant c.in-Some.ensures.items c.head-v.ensures.value (read c.local.ensures c.pop.new.self.items c.in-Some.e c.loop-e.invariant c.in-Some.ensures.items c.head-v.ensures.value c.get.ensures.read).left c.if-left-eq0.true
    c.outs-then-left-eq0.result.now c.outs-then-left-eq0.ensures.value c.in_ok-put-2.ensures)

pub loop-e-smaller : goal.loop-e-smaller
loop-e-smaller c = rw c.set.ensures
    (untaken_falls c.local.ensures c.pop.new.self.items c.in-Some.e c.loop-e.invariant c.in-Some.ensures.items (c.get.result.now - 1) c.head-v.ensures.value (read c.local.ensures c.pop.new.self.items c.in-Some.e c.loop-e.invariant c.in-Some.ensures.items c.head-v.ensures.value c.get.ensures.read).left)

pub loop-e-preserved : goal.loop-e-preserved
loop-e-preserved c = rw c.set.ensures
    (going_pass c.local.ensures c.pop.new.self.items c.in-Some.e c.loop-e.invariant c.in-Some.ensures.items c.head-v.ensures.value (read c.local.ensures c.pop.new.self.items c.in-Some.e c.loop-e.invariant c.in-Some.ensures.items c.head-v.ensures.value c.get.ensures.read).left c.if-left-eq0.false)

pub returns : goal.returns
returns c =
    let h : length c.loop-e.stack.items ≡ 0 = omega (arith, c.in_default.ensures.cases.0, c.loop-e.stack.ok.0) in
    going_end c.local.ensures c.args.from_left h c.loop-e.invariant
