use Rattle.std.proofs.Common.{◌≡◌, ◌-◌, ◌∙◌, length, refl, ap, arith}
use Rattle.st_sides.specs.Sides.{outs}
use Rattle.st_reduce.proofs.Public.{length-dummy_numbers}
use Rattle.draw_dom.proofs.BuildLemmas.{dummy_is}
use Rattle.draw_dom.proofs.SplittingLemmas.{read_at, split_dummy, split_end, split_head, split_number, split_pass, split_start, split_top, waits_less}
use Rattle.draw_dom.proofs.splitting.traverse.Goals as goal

pub loop-e-init : goal.loop-e-init
loop-e-init c = λ r P.
    split_start c.local.ensures P c.outs.result.now c.put.new.stack.items c.in_ok-waiting.waiting c.in_ok-numbers.numbers
    (c.outs.ensures.value ∙ ap (outs c.args.sides.now) (c.low-source.ensures.value ∙ c.local.ensures.low_s))
    (rw c.new-stack.ensures.items at c.in_ok-put.ensures)
    c.in_ok-waiting.ensures.size
    c.in_ok-waiting.ensures.each
    c.in_ok-numbers.ensures

pub get-requires : goal.get-requires
get-requires c =
    let T = split_top c.local.ensures c.requires.some.are c.pop.new.self.items c.in-Some.e (c.loop-e.invariant c.requires.some.split c.requires.some.are) c.in-Some.ensures.items in
    omega (arith, T.is_arc, c.requires.some.are.size, length-dummy_numbers c.args.dummies.now.of_edges)

pub pass_dummy-next-requires-clause-there : goal.pass_dummy-next-requires-clause-there
pass_dummy-next-requires-clause-there c = λ w q.
    let T = split_top c.local.ensures c.requires.some.are c.pop.new.self.items c.in-Some.e (c.loop-e.invariant c.requires.some.split c.requires.some.are) c.in-Some.ensures.items in
    T.dummy_in w (dummy_is c.args.dummies.now.of_edges c.in-Some.e.0 c.get.result.now c.get.ensures.value ∙ q)

pub pass_dummy-next-requires-clause-few : goal.pass_dummy-next-requires-clause-few
pass_dummy-next-requires-clause-few c =
    let T = split_top c.local.ensures c.requires.some.are c.pop.new.self.items c.in-Some.e (c.loop-e.invariant c.requires.some.split c.requires.some.are) c.in-Some.ensures.items in
    omega (arith, T.next_in, c.requires.few)

pub head-v-requires : goal.head-v-requires
head-v-requires c = (split_top c.local.ensures c.requires.some.are c.pop.new.self.items c.in-Some.e (c.loop-e.invariant c.requires.some.split c.requires.some.are) c.in-Some.ensures.items).is_arc

pub get-requires-in-Some : goal.get-requires-in-Some
get-requires-in-Some c =
    let T = split_top c.local.ensures c.requires.some.are c.pop.new.self.items c.in-Some.e (c.loop-e.invariant c.requires.some.split c.requires.some.are) c.in-Some.ensures.items in
    let Q = split_dummy c.local.ensures c.requires.some.are c.pop.new.self.items c.in-Some.e (c.loop-e.invariant c.requires.some.split c.requires.some.are) c.in-Some.ensures.items c.args.dummies.now.of_edges refl c.get.result.now c.pass_dummy-next.new.numbers c.pass_dummy-next.result c.get.ensures.value c.pass_dummy-next.ensures.none c.pass_dummy-next.ensures.some in
    let H = split_head c.local.ensures c.requires.some.are c.pop.new.self.items c.in-Some.e.0 T.is_arc Q c.head-v.ensures.value in
    H.in_waiting

pub overflow_sub-left : goal.overflow_sub-left
overflow_sub-left c =
    let T = split_top c.local.ensures c.requires.some.are c.pop.new.self.items c.in-Some.e (c.loop-e.invariant c.requires.some.split c.requires.some.are) c.in-Some.ensures.items in
    let Q = split_dummy c.local.ensures c.requires.some.are c.pop.new.self.items c.in-Some.e (c.loop-e.invariant c.requires.some.split c.requires.some.are) c.in-Some.ensures.items c.args.dummies.now.of_edges refl c.get.result.now c.pass_dummy-next.new.numbers c.pass_dummy-next.result c.get.ensures.value c.pass_dummy-next.ensures.none c.pass_dummy-next.ensures.some in
    let H = split_head c.local.ensures c.requires.some.are c.pop.new.self.items c.in-Some.e.0 T.is_arc Q c.head-v.ensures.value in
    (read_at H c.get-in-Some.ensures.read).positive

pub set-requires : goal.set-requires
set-requires c =
    let T = split_top c.local.ensures c.requires.some.are c.pop.new.self.items c.in-Some.e (c.loop-e.invariant c.requires.some.split c.requires.some.are) c.in-Some.ensures.items in
    let Q = split_dummy c.local.ensures c.requires.some.are c.pop.new.self.items c.in-Some.e (c.loop-e.invariant c.requires.some.split c.requires.some.are) c.in-Some.ensures.items c.args.dummies.now.of_edges refl c.get.result.now c.pass_dummy-next.new.numbers c.pass_dummy-next.result c.get.ensures.value c.pass_dummy-next.ensures.none c.pass_dummy-next.ensures.some in
    let H = split_head c.local.ensures c.requires.some.are c.pop.new.self.items c.in-Some.e.0 T.is_arc Q c.head-v.ensures.value in
    H.in_waiting

pub set-requires-then-left-eq0 : goal.set-requires-then-left-eq0
set-requires-then-left-eq0 c =
    let T = split_top c.local.ensures c.requires.some.are c.pop.new.self.items c.in-Some.e (c.loop-e.invariant c.requires.some.split c.requires.some.are) c.in-Some.ensures.items in
    let Q = split_dummy c.local.ensures c.requires.some.are c.pop.new.self.items c.in-Some.e (c.loop-e.invariant c.requires.some.split c.requires.some.are) c.in-Some.ensures.items c.args.dummies.now.of_edges refl c.get.result.now c.pass_dummy-next.new.numbers c.pass_dummy-next.result c.get.ensures.value c.pass_dummy-next.ensures.none c.pass_dummy-next.ensures.some in
    let H = split_head c.local.ensures c.requires.some.are c.pop.new.self.items c.in-Some.e.0 T.is_arc Q c.head-v.ensures.value in
    H.in_numbered

pub overflow_add-next : goal.overflow_add-next
overflow_add-next c =
    let T = split_top c.local.ensures c.requires.some.are c.pop.new.self.items c.in-Some.e (c.loop-e.invariant c.requires.some.split c.requires.some.are) c.in-Some.ensures.items in
    let Q = split_dummy c.local.ensures c.requires.some.are c.pop.new.self.items c.in-Some.e (c.loop-e.invariant c.requires.some.split c.requires.some.are) c.in-Some.ensures.items c.args.dummies.now.of_edges refl c.get.result.now c.pass_dummy-next.new.numbers c.pass_dummy-next.result c.get.ensures.value c.pass_dummy-next.ensures.none c.pass_dummy-next.ensures.some in
    let H = split_head c.local.ensures c.requires.some.are c.pop.new.self.items c.in-Some.e.0 T.is_arc Q c.head-v.ensures.value in
    omega (arith, H.next_in, c.requires.few)

pub loop-e-smaller-in-Continue-branch-4 : goal.loop-e-smaller-in-Continue-branch-4
loop-e-smaller-in-Continue-branch-4 c =
    let T = split_top c.local.ensures c.requires.some.are c.pop.new.self.items c.in-Some.e (c.loop-e.invariant c.requires.some.split c.requires.some.are) c.in-Some.ensures.items in
    let Q = split_dummy c.local.ensures c.requires.some.are c.pop.new.self.items c.in-Some.e (c.loop-e.invariant c.requires.some.split c.requires.some.are) c.in-Some.ensures.items c.args.dummies.now.of_edges refl c.get.result.now c.pass_dummy-next.new.numbers c.pass_dummy-next.result c.get.ensures.value c.pass_dummy-next.ensures.none c.pass_dummy-next.ensures.some in
    let H = split_head c.local.ensures c.requires.some.are c.pop.new.self.items c.in-Some.e.0 T.is_arc Q c.head-v.ensures.value in
    rw c.set.ensures (waits_less H (c.get-in-Some.result.now - 1) (read_at H c.get-in-Some.ensures.read).left)

pub loop-e-preserved-in-Continue-branch-4 : goal.loop-e-preserved-in-Continue-branch-4
loop-e-preserved-in-Continue-branch-4 c = λ r P.
    let T = split_top c.local.ensures P c.pop.new.self.items c.in-Some.e (c.loop-e.invariant r P) c.in-Some.ensures.items in
    let Q = split_dummy c.local.ensures P c.pop.new.self.items c.in-Some.e (c.loop-e.invariant r P) c.in-Some.ensures.items c.args.dummies.now.of_edges refl c.get.result.now c.pass_dummy-next.new.numbers c.pass_dummy-next.result c.get.ensures.value c.pass_dummy-next.ensures.none c.pass_dummy-next.ensures.some in
    let H = split_head c.local.ensures P c.pop.new.self.items c.in-Some.e.0 T.is_arc Q c.head-v.ensures.value in
    rw (c.set.ensures, c.set-then-left-eq0.ensures)
    (split_number c.local.ensures P c.pop.new.self.items c.in-Some.e.0 T.is_arc Q c.head-v.ensures.value (read_at H c.get-in-Some.ensures.read).left c.if-left-eq0.true
    c.outs-then-left-eq0.result.now c.outs-then-left-eq0.ensures.value c.in_ok-put-2.ensures)

pub loop-e-smaller : goal.loop-e-smaller
loop-e-smaller c =
    let T = split_top c.local.ensures c.requires.some.are c.pop.new.self.items c.in-Some.e (c.loop-e.invariant c.requires.some.split c.requires.some.are) c.in-Some.ensures.items in
    let Q = split_dummy c.local.ensures c.requires.some.are c.pop.new.self.items c.in-Some.e (c.loop-e.invariant c.requires.some.split c.requires.some.are) c.in-Some.ensures.items c.args.dummies.now.of_edges refl c.get.result.now c.pass_dummy-next.new.numbers c.pass_dummy-next.result c.get.ensures.value c.pass_dummy-next.ensures.none c.pass_dummy-next.ensures.some in
    let H = split_head c.local.ensures c.requires.some.are c.pop.new.self.items c.in-Some.e.0 T.is_arc Q c.head-v.ensures.value in
    rw c.set.ensures (waits_less H (c.get-in-Some.result.now - 1) (read_at H c.get-in-Some.ensures.read).left)

pub loop-e-preserved : goal.loop-e-preserved
loop-e-preserved c = λ r P.
    let T = split_top c.local.ensures P c.pop.new.self.items c.in-Some.e (c.loop-e.invariant r P) c.in-Some.ensures.items in
    let Q = split_dummy c.local.ensures P c.pop.new.self.items c.in-Some.e (c.loop-e.invariant r P) c.in-Some.ensures.items c.args.dummies.now.of_edges refl c.get.result.now c.pass_dummy-next.new.numbers c.pass_dummy-next.result c.get.ensures.value c.pass_dummy-next.ensures.none c.pass_dummy-next.ensures.some in
    let H = split_head c.local.ensures P c.pop.new.self.items c.in-Some.e.0 T.is_arc Q c.head-v.ensures.value in
    rw c.set.ensures
    (split_pass c.local.ensures P c.pop.new.self.items c.in-Some.e.0 T.is_arc Q c.head-v.ensures.value (read_at H c.get-in-Some.ensures.read).left c.if-left-eq0.false)

pub returns : goal.returns
returns c = λ r P.
    let h : length c.loop-e.stack.items ≡ 0 = omega (arith, c.in_default.ensures.cases.0, c.loop-e.stack.ok.0) in
    split_end c.local.ensures P h (c.loop-e.invariant r P)
