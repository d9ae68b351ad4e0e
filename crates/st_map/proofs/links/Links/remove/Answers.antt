use Rattle.std.proofs.Common.{rules, ◌≡◌, ◌≢◌, ℕ, ◌+◌, ◌-◌, ◌*◌, ◌<◌, None, IsSome, map, set, length, get_or, vec_len, sym, ap, ◌∙◌, subst, arith}
use Rattle.std.specs.List.{range_with_len}
use Rattle.std.proofs.lemmas.List.{get_or_default, length-set}
use Rattle.slab.specs.Slab.{get}
use Rattle.st_map.specs.Links.{LinkTables, RenumbersEnd, TakesEnd, ccw_at, cw_at, end_in, first_at, key_of, next_first}
use Rattle.st_map.specs.Tables.{AreLinksRemoved, first_left}
use Rattle.st_map.proofs.LinkLoops.{key_head, key_tail}
use Rattle.st_map.proofs.LinkRemove.{CanLeave, asked_first, asked_vertex, before2, before3, behind2, behind3, can_leave, ccw_after, cw_after, end3, first_is, head_in, left_over, links_after, tail_in, there, there1, there2}
use Rattle.st_map.proofs.links.Links.remove.Goals as goal

pub index-requires : goal.index-requires
index-requires c =
    let R : CanLeave c.self.inside.ends c.self.inside.keys.items (length c.self.inside.keys.items - 1) c.args.e = can_leave c.self.inside.ends c.self.inside.keys.items c.self.inside.first.items c.self.inside.keys.cap c.self.inside.first.cap c.args.self.now c.self.view_is c.args.e c.self.invariant c.requires.edge c.requires.back c.requires.forth c.requires.apart.0 c.requires.apart.1 in
    let w : vec_len c.self.inside.keys ≡ length c.self.inside.keys.items = search rules in
    omega (arith, R.few, R.le)

pub next_first-requires : goal.next_first-requires
next_first-requires c =
    let R : CanLeave c.self.inside.ends c.self.inside.keys.items (length c.self.inside.keys.items - 1) c.args.e = can_leave c.self.inside.ends c.self.inside.keys.items c.self.inside.first.items c.self.inside.keys.cap c.self.inside.first.cap c.args.self.now c.self.view_is c.args.e c.self.invariant c.requires.edge c.requires.back c.requires.forth c.requires.apart.0 c.requires.apart.1 in
    let pair : c.index.result.now ≡ get_or c.self.inside.keys.items c.args.e (0, 0) = c.index.ensures ∙ get_or_default c.self.inside.keys.items c.args.e c.index.result.now (0, 0) (omega (arith, R.few, R.le)) in
    let kt : c.index.result.now.0 ≡ key_of c.self.inside.keys.items (2 * c.args.e) = ap (λ (z : ℕ × ℕ). z.0) pair ∙ sym (key_tail c.self.inside.keys.items c.args.e) in
    subst (λ z. IsSome (get c.self.inside.ends z)) (sym kt) (there c.self.inside.ends c.self.inside.keys.items c.self.inside.first.items (length c.self.inside.keys.items - 1) c.args.e c.self.invariant R.few R.le R.back R.fore R.apart R.apart' (2 * c.args.e) (tail_in c.self.inside.ends c.self.inside.keys.items c.self.inside.first.items (length c.self.inside.keys.items - 1) c.args.e c.self.invariant R.few R.le R.back R.fore R.apart R.apart'))

pub next_first-requires-2 : goal.next_first-requires-2
next_first-requires-2 c =
    let R : CanLeave c.self.inside.ends c.self.inside.keys.items (length c.self.inside.keys.items - 1) c.args.e = can_leave c.self.inside.ends c.self.inside.keys.items c.self.inside.first.items c.self.inside.keys.cap c.self.inside.first.cap c.args.self.now c.self.view_is c.args.e c.self.invariant c.requires.edge c.requires.back c.requires.forth c.requires.apart.0 c.requires.apart.1 in
    let pair : c.index.result.now ≡ get_or c.self.inside.keys.items c.args.e (0, 0) = c.index.ensures ∙ get_or_default c.self.inside.keys.items c.args.e c.index.result.now (0, 0) (omega (arith, R.few, R.le)) in
    let kh : c.index.result.now.1 ≡ key_of c.self.inside.keys.items (2 * c.args.e + 1) = ap (λ (z : ℕ × ℕ). z.1) pair ∙ sym (key_head c.self.inside.keys.items c.args.e) in
    subst (λ z. IsSome (get c.self.inside.ends z)) (sym kh) (there c.self.inside.ends c.self.inside.keys.items c.self.inside.first.items (length c.self.inside.keys.items - 1) c.args.e c.self.invariant R.few R.le R.back R.fore R.apart R.apart' (2 * c.args.e + 1) (head_in c.self.inside.ends c.self.inside.keys.items c.self.inside.first.items (length c.self.inside.keys.items - 1) c.args.e c.self.invariant R.few R.le R.back R.fore R.apart R.apart'))

pub overflow_mul-e : goal.overflow_mul-e
overflow_mul-e c =
    let R : CanLeave c.self.inside.ends c.self.inside.keys.items (length c.self.inside.keys.items - 1) c.args.e = can_leave c.self.inside.ends c.self.inside.keys.items c.self.inside.first.items c.self.inside.keys.cap c.self.inside.first.cap c.args.self.now c.self.view_is c.args.e c.self.invariant c.requires.edge c.requires.back c.requires.forth c.requires.apart.0 c.requires.apart.1 in
    omega (arith, R.few, R.le, c.self.invariant.few)

pub renumber-requires : goal.renumber-requires
renumber-requires c =
    let R : CanLeave c.self.inside.ends c.self.inside.keys.items (length c.self.inside.keys.items - 1) c.args.e = can_leave c.self.inside.ends c.self.inside.keys.items c.self.inside.first.items c.self.inside.keys.cap c.self.inside.first.cap c.args.self.now c.self.view_is c.args.e c.self.invariant c.requires.edge c.requires.back c.requires.forth c.requires.apart.0 c.requires.apart.1 in
    let m : c.len.result ≡ length c.self.inside.keys.items = search rules in
    let last : c.index-2.result.now ≡ get_or c.self.inside.keys.items (length c.self.inside.keys.items - 1) (0, 0) = c.index-2.ensures ∙ ap (λ z. get_or c.self.inside.keys.items (z - 1) c.index-2.result.now) m ∙ get_or_default c.self.inside.keys.items (length c.self.inside.keys.items - 1) c.index-2.result.now (0, 0) (omega (arith, R.few)) in
    let lt : c.index-2.result.now.0 ≡ key_of c.self.inside.keys.items (2 * (length c.self.inside.keys.items - 1)) = ap (λ (z : ℕ × ℕ). z.0) last ∙ sym (key_tail c.self.inside.keys.items (length c.self.inside.keys.items - 1)) in
    subst (λ z. IsSome (get c.self.inside.ends z)) (sym lt) (there c.self.inside.ends c.self.inside.keys.items c.self.inside.first.items (length c.self.inside.keys.items - 1) c.args.e c.self.invariant R.few R.le R.back R.fore R.apart R.apart' (2 * (length c.self.inside.keys.items - 1)) (omega (arith, R.few)))

pub overflow_mul-e-2 : goal.overflow_mul-e-2
overflow_mul-e-2 c =
    let R : CanLeave c.self.inside.ends c.self.inside.keys.items (length c.self.inside.keys.items - 1) c.args.e = can_leave c.self.inside.ends c.self.inside.keys.items c.self.inside.first.items c.self.inside.keys.cap c.self.inside.first.cap c.args.self.now c.self.view_is c.args.e c.self.invariant c.requires.edge c.requires.back c.requires.forth c.requires.apart.0 c.requires.apart.1 in
    omega (arith, R.few, R.le, c.self.invariant.few)

pub overflow_add-e : goal.overflow_add-e
overflow_add-e c =
    let R : CanLeave c.self.inside.ends c.self.inside.keys.items (length c.self.inside.keys.items - 1) c.args.e = can_leave c.self.inside.ends c.self.inside.keys.items c.self.inside.first.items c.self.inside.keys.cap c.self.inside.first.cap c.args.self.now c.self.view_is c.args.e c.self.invariant c.requires.edge c.requires.back c.requires.forth c.requires.apart.0 c.requires.apart.1 in
    omega (arith, R.few, R.le, c.self.invariant.few)

pub renumber-requires-2 : goal.renumber-requires-2
renumber-requires-2 c =
    let R : CanLeave c.self.inside.ends c.self.inside.keys.items (length c.self.inside.keys.items - 1) c.args.e = can_leave c.self.inside.ends c.self.inside.keys.items c.self.inside.first.items c.self.inside.keys.cap c.self.inside.first.cap c.args.self.now c.self.view_is c.args.e c.self.invariant c.requires.edge c.requires.back c.requires.forth c.requires.apart.0 c.requires.apart.1 in
    let m : c.len.result ≡ length c.self.inside.keys.items = search rules in
    let last : c.index-2.result.now ≡ get_or c.self.inside.keys.items (length c.self.inside.keys.items - 1) (0, 0) = c.index-2.ensures ∙ ap (λ z. get_or c.self.inside.keys.items (z - 1) c.index-2.result.now) m ∙ get_or_default c.self.inside.keys.items (length c.self.inside.keys.items - 1) c.index-2.result.now (0, 0) (omega (arith, R.few)) in
    let lt : c.index-2.result.now.0 ≡ key_of c.self.inside.keys.items (2 * (length c.self.inside.keys.items - 1)) = ap (λ (z : ℕ × ℕ). z.0) last ∙ sym (key_tail c.self.inside.keys.items (length c.self.inside.keys.items - 1)) in
    let lh : c.index-2.result.now.1 ≡ key_of c.self.inside.keys.items (2 * (length c.self.inside.keys.items - 1) + 1) = ap (λ (z : ℕ × ℕ). z.1) last ∙ sym (key_head c.self.inside.keys.items (length c.self.inside.keys.items - 1)) in
    let renumbers_tail : RenumbersEnd c.self.inside.ends c.renumber.new.ends (key_of c.self.inside.keys.items (2 * (length c.self.inside.keys.items - 1))) (2 * c.args.e) = subst (λ z. RenumbersEnd c.self.inside.ends c.renumber.new.ends z (2 * c.args.e)) lt c.renumber.ensures.renumbers in
    subst (λ z. IsSome (get c.renumber.new.ends z)) (sym lh) (there1 c.self.inside.ends c.self.inside.keys.items c.self.inside.first.items (length c.self.inside.keys.items - 1) c.args.e c.self.invariant R.few R.le R.back R.fore R.apart R.apart' c.renumber.new.ends renumbers_tail (2 * (length c.self.inside.keys.items - 1) + 1) (omega (arith, R.few)))

pub take_end-requires-clause-end : goal.take_end-requires-clause-end
take_end-requires-clause-end c =
    let R : CanLeave c.self.inside.ends c.self.inside.keys.items (length c.self.inside.keys.items - 1) c.args.e = can_leave c.self.inside.ends c.self.inside.keys.items c.self.inside.first.items c.self.inside.keys.cap c.self.inside.first.cap c.args.self.now c.self.view_is c.args.e c.self.invariant c.requires.edge c.requires.back c.requires.forth c.requires.apart.0 c.requires.apart.1 in
    let pair : c.index.result.now ≡ get_or c.self.inside.keys.items c.args.e (0, 0) = c.index.ensures ∙ get_or_default c.self.inside.keys.items c.args.e c.index.result.now (0, 0) (omega (arith, R.few, R.le)) in
    let kt : c.index.result.now.0 ≡ key_of c.self.inside.keys.items (2 * c.args.e) = ap (λ (z : ℕ × ℕ). z.0) pair ∙ sym (key_tail c.self.inside.keys.items c.args.e) in
    let m : c.len.result ≡ length c.self.inside.keys.items = search rules in
    let last : c.index-2.result.now ≡ get_or c.self.inside.keys.items (length c.self.inside.keys.items - 1) (0, 0) = c.index-2.ensures ∙ ap (λ z. get_or c.self.inside.keys.items (z - 1) c.index-2.result.now) m ∙ get_or_default c.self.inside.keys.items (length c.self.inside.keys.items - 1) c.index-2.result.now (0, 0) (omega (arith, R.few)) in
    let lt : c.index-2.result.now.0 ≡ key_of c.self.inside.keys.items (2 * (length c.self.inside.keys.items - 1)) = ap (λ (z : ℕ × ℕ). z.0) last ∙ sym (key_tail c.self.inside.keys.items (length c.self.inside.keys.items - 1)) in
    let lh : c.index-2.result.now.1 ≡ key_of c.self.inside.keys.items (2 * (length c.self.inside.keys.items - 1) + 1) = ap (λ (z : ℕ × ℕ). z.1) last ∙ sym (key_head c.self.inside.keys.items (length c.self.inside.keys.items - 1)) in
    let renumbers_tail : RenumbersEnd c.self.inside.ends c.renumber.new.ends (key_of c.self.inside.keys.items (2 * (length c.self.inside.keys.items - 1))) (2 * c.args.e) = subst (λ z. RenumbersEnd c.self.inside.ends c.renumber.new.ends z (2 * c.args.e)) lt c.renumber.ensures.renumbers in
    let renumbers_head : RenumbersEnd c.renumber.new.ends c.renumber-2.new.ends (key_of c.self.inside.keys.items (2 * (length c.self.inside.keys.items - 1) + 1)) (2 * c.args.e + 1) = subst (λ z. RenumbersEnd c.renumber.new.ends c.renumber-2.new.ends z (2 * c.args.e + 1)) lh c.renumber-2.ensures.renumbers in
    subst (λ z. IsSome (get c.renumber-2.new.ends z)) (sym kt) (there2 c.self.inside.ends c.self.inside.keys.items c.self.inside.first.items (length c.self.inside.keys.items - 1) c.args.e c.self.invariant R.few R.le R.back R.fore R.apart R.apart' c.renumber.new.ends renumbers_tail c.renumber-2.new.ends renumbers_head (2 * c.args.e) (tail_in c.self.inside.ends c.self.inside.keys.items c.self.inside.first.items (length c.self.inside.keys.items - 1) c.args.e c.self.invariant R.few R.le R.back R.fore R.apart R.apart'))

pub take_end-requires-clause-before : goal.take_end-requires-clause-before
take_end-requires-clause-before c =
    let R : CanLeave c.self.inside.ends c.self.inside.keys.items (length c.self.inside.keys.items - 1) c.args.e = can_leave c.self.inside.ends c.self.inside.keys.items c.self.inside.first.items c.self.inside.keys.cap c.self.inside.first.cap c.args.self.now c.self.view_is c.args.e c.self.invariant c.requires.edge c.requires.back c.requires.forth c.requires.apart.0 c.requires.apart.1 in
    let pair : c.index.result.now ≡ get_or c.self.inside.keys.items c.args.e (0, 0) = c.index.ensures ∙ get_or_default c.self.inside.keys.items c.args.e c.index.result.now (0, 0) (omega (arith, R.few, R.le)) in
    let kt : c.index.result.now.0 ≡ key_of c.self.inside.keys.items (2 * c.args.e) = ap (λ (z : ℕ × ℕ). z.0) pair ∙ sym (key_tail c.self.inside.keys.items c.args.e) in
    let m : c.len.result ≡ length c.self.inside.keys.items = search rules in
    let last : c.index-2.result.now ≡ get_or c.self.inside.keys.items (length c.self.inside.keys.items - 1) (0, 0) = c.index-2.ensures ∙ ap (λ z. get_or c.self.inside.keys.items (z - 1) c.index-2.result.now) m ∙ get_or_default c.self.inside.keys.items (length c.self.inside.keys.items - 1) c.index-2.result.now (0, 0) (omega (arith, R.few)) in
    let lt : c.index-2.result.now.0 ≡ key_of c.self.inside.keys.items (2 * (length c.self.inside.keys.items - 1)) = ap (λ (z : ℕ × ℕ). z.0) last ∙ sym (key_tail c.self.inside.keys.items (length c.self.inside.keys.items - 1)) in
    let lh : c.index-2.result.now.1 ≡ key_of c.self.inside.keys.items (2 * (length c.self.inside.keys.items - 1) + 1) = ap (λ (z : ℕ × ℕ). z.1) last ∙ sym (key_head c.self.inside.keys.items (length c.self.inside.keys.items - 1)) in
    let renumbers_tail : RenumbersEnd c.self.inside.ends c.renumber.new.ends (key_of c.self.inside.keys.items (2 * (length c.self.inside.keys.items - 1))) (2 * c.args.e) = subst (λ z. RenumbersEnd c.self.inside.ends c.renumber.new.ends z (2 * c.args.e)) lt c.renumber.ensures.renumbers in
    let renumbers_head : RenumbersEnd c.renumber.new.ends c.renumber-2.new.ends (key_of c.self.inside.keys.items (2 * (length c.self.inside.keys.items - 1) + 1)) (2 * c.args.e + 1) = subst (λ z. RenumbersEnd c.renumber.new.ends c.renumber-2.new.ends z (2 * c.args.e + 1)) lh c.renumber-2.ensures.renumbers in
    subst (λ z. IsSome (get c.renumber-2.new.ends (end_in c.renumber-2.new.ends z).ccw)) (sym kt) (before2 c.self.inside.ends c.self.inside.keys.items c.self.inside.first.items (length c.self.inside.keys.items - 1) c.args.e c.self.invariant R.few R.le R.back R.fore R.apart R.apart' c.renumber.new.ends renumbers_tail c.renumber-2.new.ends renumbers_head)

pub take_end-requires-clause-behind : goal.take_end-requires-clause-behind
take_end-requires-clause-behind c =
    let R : CanLeave c.self.inside.ends c.self.inside.keys.items (length c.self.inside.keys.items - 1) c.args.e = can_leave c.self.inside.ends c.self.inside.keys.items c.self.inside.first.items c.self.inside.keys.cap c.self.inside.first.cap c.args.self.now c.self.view_is c.args.e c.self.invariant c.requires.edge c.requires.back c.requires.forth c.requires.apart.0 c.requires.apart.1 in
    let pair : c.index.result.now ≡ get_or c.self.inside.keys.items c.args.e (0, 0) = c.index.ensures ∙ get_or_default c.self.inside.keys.items c.args.e c.index.result.now (0, 0) (omega (arith, R.few, R.le)) in
    let kt : c.index.result.now.0 ≡ key_of c.self.inside.keys.items (2 * c.args.e) = ap (λ (z : ℕ × ℕ). z.0) pair ∙ sym (key_tail c.self.inside.keys.items c.args.e) in
    let m : c.len.result ≡ length c.self.inside.keys.items = search rules in
    let last : c.index-2.result.now ≡ get_or c.self.inside.keys.items (length c.self.inside.keys.items - 1) (0, 0) = c.index-2.ensures ∙ ap (λ z. get_or c.self.inside.keys.items (z - 1) c.index-2.result.now) m ∙ get_or_default c.self.inside.keys.items (length c.self.inside.keys.items - 1) c.index-2.result.now (0, 0) (omega (arith, R.few)) in
    let lt : c.index-2.result.now.0 ≡ key_of c.self.inside.keys.items (2 * (length c.self.inside.keys.items - 1)) = ap (λ (z : ℕ × ℕ). z.0) last ∙ sym (key_tail c.self.inside.keys.items (length c.self.inside.keys.items - 1)) in
    let lh : c.index-2.result.now.1 ≡ key_of c.self.inside.keys.items (2 * (length c.self.inside.keys.items - 1) + 1) = ap (λ (z : ℕ × ℕ). z.1) last ∙ sym (key_head c.self.inside.keys.items (length c.self.inside.keys.items - 1)) in
    let renumbers_tail : RenumbersEnd c.self.inside.ends c.renumber.new.ends (key_of c.self.inside.keys.items (2 * (length c.self.inside.keys.items - 1))) (2 * c.args.e) = subst (λ z. RenumbersEnd c.self.inside.ends c.renumber.new.ends z (2 * c.args.e)) lt c.renumber.ensures.renumbers in
    let renumbers_head : RenumbersEnd c.renumber.new.ends c.renumber-2.new.ends (key_of c.self.inside.keys.items (2 * (length c.self.inside.keys.items - 1) + 1)) (2 * c.args.e + 1) = subst (λ z. RenumbersEnd c.renumber.new.ends c.renumber-2.new.ends z (2 * c.args.e + 1)) lh c.renumber-2.ensures.renumbers in
    subst (λ z. IsSome (get c.renumber-2.new.ends (end_in c.renumber-2.new.ends z).cw)) (sym kt) (behind2 c.self.inside.ends c.self.inside.keys.items c.self.inside.first.items (length c.self.inside.keys.items - 1) c.args.e c.self.invariant R.few R.le R.back R.fore R.apart R.apart' c.renumber.new.ends renumbers_tail c.renumber-2.new.ends renumbers_head)

pub take_end-requires-2-clause-end : goal.take_end-requires-2-clause-end
take_end-requires-2-clause-end c =
    let R : CanLeave c.self.inside.ends c.self.inside.keys.items (length c.self.inside.keys.items - 1) c.args.e = can_leave c.self.inside.ends c.self.inside.keys.items c.self.inside.first.items c.self.inside.keys.cap c.self.inside.first.cap c.args.self.now c.self.view_is c.args.e c.self.invariant c.requires.edge c.requires.back c.requires.forth c.requires.apart.0 c.requires.apart.1 in
    let pair : c.index.result.now ≡ get_or c.self.inside.keys.items c.args.e (0, 0) = c.index.ensures ∙ get_or_default c.self.inside.keys.items c.args.e c.index.result.now (0, 0) (omega (arith, R.few, R.le)) in
    let kt : c.index.result.now.0 ≡ key_of c.self.inside.keys.items (2 * c.args.e) = ap (λ (z : ℕ × ℕ). z.0) pair ∙ sym (key_tail c.self.inside.keys.items c.args.e) in
    let kh : c.index.result.now.1 ≡ key_of c.self.inside.keys.items (2 * c.args.e + 1) = ap (λ (z : ℕ × ℕ). z.1) pair ∙ sym (key_head c.self.inside.keys.items c.args.e) in
    let m : c.len.result ≡ length c.self.inside.keys.items = search rules in
    let last : c.index-2.result.now ≡ get_or c.self.inside.keys.items (length c.self.inside.keys.items - 1) (0, 0) = c.index-2.ensures ∙ ap (λ z. get_or c.self.inside.keys.items (z - 1) c.index-2.result.now) m ∙ get_or_default c.self.inside.keys.items (length c.self.inside.keys.items - 1) c.index-2.result.now (0, 0) (omega (arith, R.few)) in
    let lt : c.index-2.result.now.0 ≡ key_of c.self.inside.keys.items (2 * (length c.self.inside.keys.items - 1)) = ap (λ (z : ℕ × ℕ). z.0) last ∙ sym (key_tail c.self.inside.keys.items (length c.self.inside.keys.items - 1)) in
    let lh : c.index-2.result.now.1 ≡ key_of c.self.inside.keys.items (2 * (length c.self.inside.keys.items - 1) + 1) = ap (λ (z : ℕ × ℕ). z.1) last ∙ sym (key_head c.self.inside.keys.items (length c.self.inside.keys.items - 1)) in
    let renumbers_tail : RenumbersEnd c.self.inside.ends c.renumber.new.ends (key_of c.self.inside.keys.items (2 * (length c.self.inside.keys.items - 1))) (2 * c.args.e) = subst (λ z. RenumbersEnd c.self.inside.ends c.renumber.new.ends z (2 * c.args.e)) lt c.renumber.ensures.renumbers in
    let renumbers_head : RenumbersEnd c.renumber.new.ends c.renumber-2.new.ends (key_of c.self.inside.keys.items (2 * (length c.self.inside.keys.items - 1) + 1)) (2 * c.args.e + 1) = subst (λ z. RenumbersEnd c.renumber.new.ends c.renumber-2.new.ends z (2 * c.args.e + 1)) lh c.renumber-2.ensures.renumbers in
    let takes_tail : TakesEnd c.renumber-2.new.ends c.take_end.new.ends (key_of c.self.inside.keys.items (2 * c.args.e)) = subst (λ z. TakesEnd c.renumber-2.new.ends c.take_end.new.ends z) kt c.take_end.ensures.takes in
    subst (λ z. IsSome (get c.take_end.new.ends z)) (sym kh) (end3 c.self.inside.ends c.self.inside.keys.items c.self.inside.first.items (length c.self.inside.keys.items - 1) c.args.e c.self.invariant R.few R.le R.back R.fore R.apart R.apart' c.renumber.new.ends renumbers_tail c.renumber-2.new.ends renumbers_head c.take_end.new.ends takes_tail)

pub take_end-requires-2-clause-before : goal.take_end-requires-2-clause-before
take_end-requires-2-clause-before c =
    let R : CanLeave c.self.inside.ends c.self.inside.keys.items (length c.self.inside.keys.items - 1) c.args.e = can_leave c.self.inside.ends c.self.inside.keys.items c.self.inside.first.items c.self.inside.keys.cap c.self.inside.first.cap c.args.self.now c.self.view_is c.args.e c.self.invariant c.requires.edge c.requires.back c.requires.forth c.requires.apart.0 c.requires.apart.1 in
    let pair : c.index.result.now ≡ get_or c.self.inside.keys.items c.args.e (0, 0) = c.index.ensures ∙ get_or_default c.self.inside.keys.items c.args.e c.index.result.now (0, 0) (omega (arith, R.few, R.le)) in
    let kt : c.index.result.now.0 ≡ key_of c.self.inside.keys.items (2 * c.args.e) = ap (λ (z : ℕ × ℕ). z.0) pair ∙ sym (key_tail c.self.inside.keys.items c.args.e) in
    let kh : c.index.result.now.1 ≡ key_of c.self.inside.keys.items (2 * c.args.e + 1) = ap (λ (z : ℕ × ℕ). z.1) pair ∙ sym (key_head c.self.inside.keys.items c.args.e) in
    let m : c.len.result ≡ length c.self.inside.keys.items = search rules in
    let last : c.index-2.result.now ≡ get_or c.self.inside.keys.items (length c.self.inside.keys.items - 1) (0, 0) = c.index-2.ensures ∙ ap (λ z. get_or c.self.inside.keys.items (z - 1) c.index-2.result.now) m ∙ get_or_default c.self.inside.keys.items (length c.self.inside.keys.items - 1) c.index-2.result.now (0, 0) (omega (arith, R.few)) in
    let lt : c.index-2.result.now.0 ≡ key_of c.self.inside.keys.items (2 * (length c.self.inside.keys.items - 1)) = ap (λ (z : ℕ × ℕ). z.0) last ∙ sym (key_tail c.self.inside.keys.items (length c.self.inside.keys.items - 1)) in
    let lh : c.index-2.result.now.1 ≡ key_of c.self.inside.keys.items (2 * (length c.self.inside.keys.items - 1) + 1) = ap (λ (z : ℕ × ℕ). z.1) last ∙ sym (key_head c.self.inside.keys.items (length c.self.inside.keys.items - 1)) in
    let renumbers_tail : RenumbersEnd c.self.inside.ends c.renumber.new.ends (key_of c.self.inside.keys.items (2 * (length c.self.inside.keys.items - 1))) (2 * c.args.e) = subst (λ z. RenumbersEnd c.self.inside.ends c.renumber.new.ends z (2 * c.args.e)) lt c.renumber.ensures.renumbers in
    let renumbers_head : RenumbersEnd c.renumber.new.ends c.renumber-2.new.ends (key_of c.self.inside.keys.items (2 * (length c.self.inside.keys.items - 1) + 1)) (2 * c.args.e + 1) = subst (λ z. RenumbersEnd c.renumber.new.ends c.renumber-2.new.ends z (2 * c.args.e + 1)) lh c.renumber-2.ensures.renumbers in
    let takes_tail : TakesEnd c.renumber-2.new.ends c.take_end.new.ends (key_of c.self.inside.keys.items (2 * c.args.e)) = subst (λ z. TakesEnd c.renumber-2.new.ends c.take_end.new.ends z) kt c.take_end.ensures.takes in
    subst (λ z. IsSome (get c.take_end.new.ends (end_in c.take_end.new.ends z).ccw)) (sym kh) (before3 c.self.inside.ends c.self.inside.keys.items c.self.inside.first.items (length c.self.inside.keys.items - 1) c.args.e c.self.invariant R.few R.le R.back R.fore R.apart R.apart' c.renumber.new.ends renumbers_tail c.renumber-2.new.ends renumbers_head c.take_end.new.ends takes_tail)

pub take_end-requires-2-clause-behind : goal.take_end-requires-2-clause-behind
take_end-requires-2-clause-behind c =
    let R : CanLeave c.self.inside.ends c.self.inside.keys.items (length c.self.inside.keys.items - 1) c.args.e = can_leave c.self.inside.ends c.self.inside.keys.items c.self.inside.first.items c.self.inside.keys.cap c.self.inside.first.cap c.args.self.now c.self.view_is c.args.e c.self.invariant c.requires.edge c.requires.back c.requires.forth c.requires.apart.0 c.requires.apart.1 in
    let pair : c.index.result.now ≡ get_or c.self.inside.keys.items c.args.e (0, 0) = c.index.ensures ∙ get_or_default c.self.inside.keys.items c.args.e c.index.result.now (0, 0) (omega (arith, R.few, R.le)) in
    let kt : c.index.result.now.0 ≡ key_of c.self.inside.keys.items (2 * c.args.e) = ap (λ (z : ℕ × ℕ). z.0) pair ∙ sym (key_tail c.self.inside.keys.items c.args.e) in
    let kh : c.index.result.now.1 ≡ key_of c.self.inside.keys.items (2 * c.args.e + 1) = ap (λ (z : ℕ × ℕ). z.1) pair ∙ sym (key_head c.self.inside.keys.items c.args.e) in
    let m : c.len.result ≡ length c.self.inside.keys.items = search rules in
    let last : c.index-2.result.now ≡ get_or c.self.inside.keys.items (length c.self.inside.keys.items - 1) (0, 0) = c.index-2.ensures ∙ ap (λ z. get_or c.self.inside.keys.items (z - 1) c.index-2.result.now) m ∙ get_or_default c.self.inside.keys.items (length c.self.inside.keys.items - 1) c.index-2.result.now (0, 0) (omega (arith, R.few)) in
    let lt : c.index-2.result.now.0 ≡ key_of c.self.inside.keys.items (2 * (length c.self.inside.keys.items - 1)) = ap (λ (z : ℕ × ℕ). z.0) last ∙ sym (key_tail c.self.inside.keys.items (length c.self.inside.keys.items - 1)) in
    let lh : c.index-2.result.now.1 ≡ key_of c.self.inside.keys.items (2 * (length c.self.inside.keys.items - 1) + 1) = ap (λ (z : ℕ × ℕ). z.1) last ∙ sym (key_head c.self.inside.keys.items (length c.self.inside.keys.items - 1)) in
    let renumbers_tail : RenumbersEnd c.self.inside.ends c.renumber.new.ends (key_of c.self.inside.keys.items (2 * (length c.self.inside.keys.items - 1))) (2 * c.args.e) = subst (λ z. RenumbersEnd c.self.inside.ends c.renumber.new.ends z (2 * c.args.e)) lt c.renumber.ensures.renumbers in
    let renumbers_head : RenumbersEnd c.renumber.new.ends c.renumber-2.new.ends (key_of c.self.inside.keys.items (2 * (length c.self.inside.keys.items - 1) + 1)) (2 * c.args.e + 1) = subst (λ z. RenumbersEnd c.renumber.new.ends c.renumber-2.new.ends z (2 * c.args.e + 1)) lh c.renumber-2.ensures.renumbers in
    let takes_tail : TakesEnd c.renumber-2.new.ends c.take_end.new.ends (key_of c.self.inside.keys.items (2 * c.args.e)) = subst (λ z. TakesEnd c.renumber-2.new.ends c.take_end.new.ends z) kt c.take_end.ensures.takes in
    subst (λ z. IsSome (get c.take_end.new.ends (end_in c.take_end.new.ends z).cw)) (sym kh) (behind3 c.self.inside.ends c.self.inside.keys.items c.self.inside.first.items (length c.self.inside.keys.items - 1) c.args.e c.self.invariant R.few R.le R.back R.fore R.apart R.apart' c.renumber.new.ends renumbers_tail c.renumber-2.new.ends renumbers_head c.take_end.new.ends takes_tail)

pub swap_remove-requires : goal.swap_remove-requires
swap_remove-requires c =
    let R : CanLeave c.self.inside.ends c.self.inside.keys.items (length c.self.inside.keys.items - 1) c.args.e = can_leave c.self.inside.ends c.self.inside.keys.items c.self.inside.first.items c.self.inside.keys.cap c.self.inside.first.cap c.args.self.now c.self.view_is c.args.e c.self.invariant c.requires.edge c.requires.back c.requires.forth c.requires.apart.0 c.requires.apart.1 in
    let w : vec_len c.self.inside.keys ≡ length c.self.inside.keys.items = search rules in
    omega (arith, R.few, R.le)

pub invariant_of-self : goal.invariant_of-self
invariant_of-self c =
    let R : CanLeave c.self.inside.ends c.self.inside.keys.items (length c.self.inside.keys.items - 1) c.args.e = can_leave c.self.inside.ends c.self.inside.keys.items c.self.inside.first.items c.self.inside.keys.cap c.self.inside.first.cap c.args.self.now c.self.view_is c.args.e c.self.invariant c.requires.edge c.requires.back c.requires.forth c.requires.apart.0 c.requires.apart.1 in
    let pair : c.index.result.now ≡ get_or c.self.inside.keys.items c.args.e (0, 0) = c.index.ensures ∙ get_or_default c.self.inside.keys.items c.args.e c.index.result.now (0, 0) (omega (arith, R.few, R.le)) in
    let kt : c.index.result.now.0 ≡ key_of c.self.inside.keys.items (2 * c.args.e) = ap (λ (z : ℕ × ℕ). z.0) pair ∙ sym (key_tail c.self.inside.keys.items c.args.e) in
    let kh : c.index.result.now.1 ≡ key_of c.self.inside.keys.items (2 * c.args.e + 1) = ap (λ (z : ℕ × ℕ). z.1) pair ∙ sym (key_head c.self.inside.keys.items c.args.e) in
    let m : c.len.result ≡ length c.self.inside.keys.items = search rules in
    let last : c.index-2.result.now ≡ get_or c.self.inside.keys.items (length c.self.inside.keys.items - 1) (0, 0) = c.index-2.ensures ∙ ap (λ z. get_or c.self.inside.keys.items (z - 1) c.index-2.result.now) m ∙ get_or_default c.self.inside.keys.items (length c.self.inside.keys.items - 1) c.index-2.result.now (0, 0) (omega (arith, R.few)) in
    let lt : c.index-2.result.now.0 ≡ key_of c.self.inside.keys.items (2 * (length c.self.inside.keys.items - 1)) = ap (λ (z : ℕ × ℕ). z.0) last ∙ sym (key_tail c.self.inside.keys.items (length c.self.inside.keys.items - 1)) in
    let lh : c.index-2.result.now.1 ≡ key_of c.self.inside.keys.items (2 * (length c.self.inside.keys.items - 1) + 1) = ap (λ (z : ℕ × ℕ). z.1) last ∙ sym (key_head c.self.inside.keys.items (length c.self.inside.keys.items - 1)) in
    let renumbers_tail : RenumbersEnd c.self.inside.ends c.renumber.new.ends (key_of c.self.inside.keys.items (2 * (length c.self.inside.keys.items - 1))) (2 * c.args.e) = subst (λ z. RenumbersEnd c.self.inside.ends c.renumber.new.ends z (2 * c.args.e)) lt c.renumber.ensures.renumbers in
    let renumbers_head : RenumbersEnd c.renumber.new.ends c.renumber-2.new.ends (key_of c.self.inside.keys.items (2 * (length c.self.inside.keys.items - 1) + 1)) (2 * c.args.e + 1) = subst (λ z. RenumbersEnd c.renumber.new.ends c.renumber-2.new.ends z (2 * c.args.e + 1)) lh c.renumber-2.ensures.renumbers in
    let takes_tail : TakesEnd c.renumber-2.new.ends c.take_end.new.ends (key_of c.self.inside.keys.items (2 * c.args.e)) = subst (λ z. TakesEnd c.renumber-2.new.ends c.take_end.new.ends z) kt c.take_end.ensures.takes in
    let takes_head : TakesEnd c.take_end.new.ends c.take_end-2.new.ends (key_of c.self.inside.keys.items (2 * c.args.e + 1)) = subst (λ z. TakesEnd c.take_end.new.ends c.take_end-2.new.ends z) kh c.take_end-2.ensures.takes in
    let w : vec_len c.self.inside.keys ≡ length c.self.inside.keys.items = search rules in
    let w2 : vec_len c.swap_remove.new.self ≡ length c.swap_remove.new.self.items = search rules in
    let KL : length c.swap_remove.new.self.items ≡ (length c.self.inside.keys.items - 1) = omega (arith, c.swap_remove.ensures.len) in
    let at_e : c.args.e < (length c.self.inside.keys.items - 1) → get_or c.swap_remove.new.self.items c.args.e (0, 0) ≡ get_or c.self.inside.keys.items (length c.self.inside.keys.items - 1) (0, 0) = λ l. c.swap_remove.ensures.by_index.0 (0, 0) (omega arith) ∙ ap (λ z. get_or c.self.inside.keys.items (z - 1) (0, 0)) w in
    let at_other : (k : ℕ) → k ≢ c.args.e → k < (length c.self.inside.keys.items - 1) → get_or c.swap_remove.new.self.items k (0, 0) ≡ get_or c.self.inside.keys.items k (0, 0) = λ k n l. c.swap_remove.ensures.by_index.1 k (0, 0) n (omega arith) in
    let vt : c.args.tail < length c.self.inside.first.items = asked_vertex c.self.inside.ends c.self.inside.keys.items c.self.inside.first.items c.self.inside.keys.cap c.self.inside.first.cap c.args.self.now c.self.view_is c.args.tail c.requires.vertices.0 in
    let vh : c.args.head < length c.self.inside.first.items = asked_vertex c.self.inside.ends c.self.inside.keys.items c.self.inside.first.items c.self.inside.keys.cap c.self.inside.first.cap c.args.self.now c.self.view_is c.args.head c.requires.vertices.1 in
    let n1 : c.next_first.result ≡ next_first c.self.inside.ends (key_of c.self.inside.keys.items (2 * c.args.e)) (get_or c.self.inside.first.items c.args.tail None) = c.next_first.ensures ∙ ap (λ z. next_first c.self.inside.ends z c.index-3.result.now) kt ∙ ap (next_first c.self.inside.ends (key_of c.self.inside.keys.items (2 * c.args.e))) (c.index-3.ensures ∙ get_or_default c.self.inside.first.items c.args.tail c.index-3.result.now None vt) in
    let long : length (set c.self.inside.first.items c.args.tail (next_first c.self.inside.ends (key_of c.self.inside.keys.items (2 * c.args.e)) (get_or c.self.inside.first.items c.args.tail None))) ≡ length c.self.inside.first.items = length-set c.self.inside.first.items c.args.tail (next_first c.self.inside.ends (key_of c.self.inside.keys.items (2 * c.args.e)) (get_or c.self.inside.first.items c.args.tail None)) in
    let r4 : c.index-4.result.now ≡ get_or (set c.self.inside.first.items c.args.tail (next_first c.self.inside.ends (key_of c.self.inside.keys.items (2 * c.args.e)) (get_or c.self.inside.first.items c.args.tail None))) c.args.head None = c.index-4.ensures ∙ ap (λ z. get_or (set c.self.inside.first.items c.args.tail z) c.args.head c.index-4.result.now) n1 ∙ get_or_default (set c.self.inside.first.items c.args.tail (next_first c.self.inside.ends (key_of c.self.inside.keys.items (2 * c.args.e)) (get_or c.self.inside.first.items c.args.tail None))) c.args.head c.index-4.result.now None (omega arith) in
    let n2 : c.next_first-2.result ≡ next_first c.self.inside.ends (key_of c.self.inside.keys.items (2 * c.args.e + 1)) (get_or (set c.self.inside.first.items c.args.tail (next_first c.self.inside.ends (key_of c.self.inside.keys.items (2 * c.args.e)) (get_or c.self.inside.first.items c.args.tail None))) c.args.head None) = c.next_first-2.ensures ∙ ap (λ z. next_first c.self.inside.ends z c.index-4.result.now) kh ∙ ap (next_first c.self.inside.ends (key_of c.self.inside.keys.items (2 * c.args.e + 1))) r4 in
    let is : (set (set c.self.inside.first.items c.args.tail c.next_first.result) c.args.head c.next_first-2.result) ≡ set (set c.self.inside.first.items c.args.tail (next_first c.self.inside.ends (key_of c.self.inside.keys.items (2 * c.args.e)) (get_or c.self.inside.first.items c.args.tail None))) c.args.head (next_first c.self.inside.ends (key_of c.self.inside.keys.items (2 * c.args.e + 1)) (get_or (set c.self.inside.first.items c.args.tail (next_first c.self.inside.ends (key_of c.self.inside.keys.items (2 * c.args.e)) (get_or c.self.inside.first.items c.args.tail None))) c.args.head None)) = ap (λ z. set (set c.self.inside.first.items c.args.tail z) c.args.head c.next_first-2.result) n1 ∙ ap (set (set c.self.inside.first.items c.args.tail (next_first c.self.inside.ends (key_of c.self.inside.keys.items (2 * c.args.e)) (get_or c.self.inside.first.items c.args.tail None))) c.args.head) n2 in
    let ft : (v : ℕ) → v < length c.self.inside.first.items → first_at c.self.inside.ends (get_or c.self.inside.first.items v None) ≡ 2 * c.args.e → v ≡ c.args.tail = asked_first c.self.inside.ends c.self.inside.keys.items c.self.inside.first.items c.self.inside.keys.cap c.self.inside.first.cap c.args.self.now c.self.view_is (2 * c.args.e) c.args.tail c.requires.first_tail in
    let fh : (v : ℕ) → v < length c.self.inside.first.items → first_at c.self.inside.ends (get_or c.self.inside.first.items v None) ≡ 2 * c.args.e + 1 → v ≡ c.args.head = asked_first c.self.inside.ends c.self.inside.keys.items c.self.inside.first.items c.self.inside.keys.cap c.self.inside.first.cap c.args.self.now c.self.view_is (2 * c.args.e + 1) c.args.head c.requires.first_head in
    links_after c.self.inside.ends c.self.inside.keys.items c.self.inside.first.items (length c.self.inside.keys.items - 1) c.args.e c.self.invariant R.few R.le R.back R.fore R.apart R.apart' c.renumber.new.ends renumbers_tail c.renumber-2.new.ends renumbers_head c.take_end.new.ends takes_tail c.take_end-2.new.ends takes_head c.swap_remove.new.self.items KL at_e at_other c.self.inside.keys.cap c.self.inside.first.cap 0 0 (set (set c.self.inside.first.items c.args.tail c.next_first.result) c.args.head c.next_first-2.result) c.args.tail c.args.head vt vh c.requires.vertices.2 ft fh is

pub returns-clause-cw : goal.returns-clause-cw
returns-clause-cw c =
    let R : CanLeave c.self.inside.ends c.self.inside.keys.items (length c.self.inside.keys.items - 1) c.args.e = can_leave c.self.inside.ends c.self.inside.keys.items c.self.inside.first.items c.self.inside.keys.cap c.self.inside.first.cap c.args.self.now c.self.view_is c.args.e c.self.invariant c.requires.edge c.requires.back c.requires.forth c.requires.apart.0 c.requires.apart.1 in
    let pair : c.index.result.now ≡ get_or c.self.inside.keys.items c.args.e (0, 0) = c.index.ensures ∙ get_or_default c.self.inside.keys.items c.args.e c.index.result.now (0, 0) (omega (arith, R.few, R.le)) in
    let kt : c.index.result.now.0 ≡ key_of c.self.inside.keys.items (2 * c.args.e) = ap (λ (z : ℕ × ℕ). z.0) pair ∙ sym (key_tail c.self.inside.keys.items c.args.e) in
    let kh : c.index.result.now.1 ≡ key_of c.self.inside.keys.items (2 * c.args.e + 1) = ap (λ (z : ℕ × ℕ). z.1) pair ∙ sym (key_head c.self.inside.keys.items c.args.e) in
    let m : c.len.result ≡ length c.self.inside.keys.items = search rules in
    let last : c.index-2.result.now ≡ get_or c.self.inside.keys.items (length c.self.inside.keys.items - 1) (0, 0) = c.index-2.ensures ∙ ap (λ z. get_or c.self.inside.keys.items (z - 1) c.index-2.result.now) m ∙ get_or_default c.self.inside.keys.items (length c.self.inside.keys.items - 1) c.index-2.result.now (0, 0) (omega (arith, R.few)) in
    let lt : c.index-2.result.now.0 ≡ key_of c.self.inside.keys.items (2 * (length c.self.inside.keys.items - 1)) = ap (λ (z : ℕ × ℕ). z.0) last ∙ sym (key_tail c.self.inside.keys.items (length c.self.inside.keys.items - 1)) in
    let lh : c.index-2.result.now.1 ≡ key_of c.self.inside.keys.items (2 * (length c.self.inside.keys.items - 1) + 1) = ap (λ (z : ℕ × ℕ). z.1) last ∙ sym (key_head c.self.inside.keys.items (length c.self.inside.keys.items - 1)) in
    let renumbers_tail : RenumbersEnd c.self.inside.ends c.renumber.new.ends (key_of c.self.inside.keys.items (2 * (length c.self.inside.keys.items - 1))) (2 * c.args.e) = subst (λ z. RenumbersEnd c.self.inside.ends c.renumber.new.ends z (2 * c.args.e)) lt c.renumber.ensures.renumbers in
    let renumbers_head : RenumbersEnd c.renumber.new.ends c.renumber-2.new.ends (key_of c.self.inside.keys.items (2 * (length c.self.inside.keys.items - 1) + 1)) (2 * c.args.e + 1) = subst (λ z. RenumbersEnd c.renumber.new.ends c.renumber-2.new.ends z (2 * c.args.e + 1)) lh c.renumber-2.ensures.renumbers in
    let takes_tail : TakesEnd c.renumber-2.new.ends c.take_end.new.ends (key_of c.self.inside.keys.items (2 * c.args.e)) = subst (λ z. TakesEnd c.renumber-2.new.ends c.take_end.new.ends z) kt c.take_end.ensures.takes in
    let takes_head : TakesEnd c.take_end.new.ends c.take_end-2.new.ends (key_of c.self.inside.keys.items (2 * c.args.e + 1)) = subst (λ z. TakesEnd c.take_end.new.ends c.take_end-2.new.ends z) kh c.take_end-2.ensures.takes in
    let w : vec_len c.self.inside.keys ≡ length c.self.inside.keys.items = search rules in
    let w2 : vec_len c.swap_remove.new.self ≡ length c.swap_remove.new.self.items = search rules in
    let KL : length c.swap_remove.new.self.items ≡ (length c.self.inside.keys.items - 1) = omega (arith, c.swap_remove.ensures.len) in
    let at_e : c.args.e < (length c.self.inside.keys.items - 1) → get_or c.swap_remove.new.self.items c.args.e (0, 0) ≡ get_or c.self.inside.keys.items (length c.self.inside.keys.items - 1) (0, 0) = λ l. c.swap_remove.ensures.by_index.0 (0, 0) (omega arith) ∙ ap (λ z. get_or c.self.inside.keys.items (z - 1) (0, 0)) w in
    let at_other : (k : ℕ) → k ≢ c.args.e → k < (length c.self.inside.keys.items - 1) → get_or c.swap_remove.new.self.items k (0, 0) ≡ get_or c.self.inside.keys.items k (0, 0) = λ k n l. c.swap_remove.ensures.by_index.1 k (0, 0) n (omega arith) in
    λ i h. subst (λ k. AreLinksRemoved c.args.self.now.cw k c.args.e (map (cw_at c.take_end-2.new.ends c.swap_remove.new.self.items) (range_with_len 0 (2 * length c.swap_remove.new.self.items)))) (left_over c.self.inside.ends c.self.inside.keys.items c.self.inside.first.items c.self.inside.keys.cap c.self.inside.first.cap c.args.self.now c.self.view_is i h)
    (subst (λ (z : LinkTables). AreLinksRemoved z.cw (length c.self.inside.keys.items - 1) c.args.e (map (cw_at c.take_end-2.new.ends c.swap_remove.new.self.items) (range_with_len 0 (2 * length c.swap_remove.new.self.items)))) c.self.view_is (cw_after c.self.inside.ends c.self.inside.keys.items c.self.inside.first.items (length c.self.inside.keys.items - 1) c.args.e c.self.invariant R.few R.le R.back R.fore R.apart R.apart' c.renumber.new.ends renumbers_tail c.renumber-2.new.ends renumbers_head c.take_end.new.ends takes_tail c.take_end-2.new.ends takes_head c.swap_remove.new.self.items KL at_e at_other c.self.inside.keys.cap c.self.inside.first.cap 0 0 (set (set c.self.inside.first.items c.args.tail c.next_first.result) c.args.head c.next_first-2.result)))

pub returns-clause-ccw : goal.returns-clause-ccw
returns-clause-ccw c =
    let R : CanLeave c.self.inside.ends c.self.inside.keys.items (length c.self.inside.keys.items - 1) c.args.e = can_leave c.self.inside.ends c.self.inside.keys.items c.self.inside.first.items c.self.inside.keys.cap c.self.inside.first.cap c.args.self.now c.self.view_is c.args.e c.self.invariant c.requires.edge c.requires.back c.requires.forth c.requires.apart.0 c.requires.apart.1 in
    let pair : c.index.result.now ≡ get_or c.self.inside.keys.items c.args.e (0, 0) = c.index.ensures ∙ get_or_default c.self.inside.keys.items c.args.e c.index.result.now (0, 0) (omega (arith, R.few, R.le)) in
    let kt : c.index.result.now.0 ≡ key_of c.self.inside.keys.items (2 * c.args.e) = ap (λ (z : ℕ × ℕ). z.0) pair ∙ sym (key_tail c.self.inside.keys.items c.args.e) in
    let kh : c.index.result.now.1 ≡ key_of c.self.inside.keys.items (2 * c.args.e + 1) = ap (λ (z : ℕ × ℕ). z.1) pair ∙ sym (key_head c.self.inside.keys.items c.args.e) in
    let m : c.len.result ≡ length c.self.inside.keys.items = search rules in
    let last : c.index-2.result.now ≡ get_or c.self.inside.keys.items (length c.self.inside.keys.items - 1) (0, 0) = c.index-2.ensures ∙ ap (λ z. get_or c.self.inside.keys.items (z - 1) c.index-2.result.now) m ∙ get_or_default c.self.inside.keys.items (length c.self.inside.keys.items - 1) c.index-2.result.now (0, 0) (omega (arith, R.few)) in
    let lt : c.index-2.result.now.0 ≡ key_of c.self.inside.keys.items (2 * (length c.self.inside.keys.items - 1)) = ap (λ (z : ℕ × ℕ). z.0) last ∙ sym (key_tail c.self.inside.keys.items (length c.self.inside.keys.items - 1)) in
    let lh : c.index-2.result.now.1 ≡ key_of c.self.inside.keys.items (2 * (length c.self.inside.keys.items - 1) + 1) = ap (λ (z : ℕ × ℕ). z.1) last ∙ sym (key_head c.self.inside.keys.items (length c.self.inside.keys.items - 1)) in
    let renumbers_tail : RenumbersEnd c.self.inside.ends c.renumber.new.ends (key_of c.self.inside.keys.items (2 * (length c.self.inside.keys.items - 1))) (2 * c.args.e) = subst (λ z. RenumbersEnd c.self.inside.ends c.renumber.new.ends z (2 * c.args.e)) lt c.renumber.ensures.renumbers in
    let renumbers_head : RenumbersEnd c.renumber.new.ends c.renumber-2.new.ends (key_of c.self.inside.keys.items (2 * (length c.self.inside.keys.items - 1) + 1)) (2 * c.args.e + 1) = subst (λ z. RenumbersEnd c.renumber.new.ends c.renumber-2.new.ends z (2 * c.args.e + 1)) lh c.renumber-2.ensures.renumbers in
    let takes_tail : TakesEnd c.renumber-2.new.ends c.take_end.new.ends (key_of c.self.inside.keys.items (2 * c.args.e)) = subst (λ z. TakesEnd c.renumber-2.new.ends c.take_end.new.ends z) kt c.take_end.ensures.takes in
    let takes_head : TakesEnd c.take_end.new.ends c.take_end-2.new.ends (key_of c.self.inside.keys.items (2 * c.args.e + 1)) = subst (λ z. TakesEnd c.take_end.new.ends c.take_end-2.new.ends z) kh c.take_end-2.ensures.takes in
    let w : vec_len c.self.inside.keys ≡ length c.self.inside.keys.items = search rules in
    let w2 : vec_len c.swap_remove.new.self ≡ length c.swap_remove.new.self.items = search rules in
    let KL : length c.swap_remove.new.self.items ≡ (length c.self.inside.keys.items - 1) = omega (arith, c.swap_remove.ensures.len) in
    let at_e : c.args.e < (length c.self.inside.keys.items - 1) → get_or c.swap_remove.new.self.items c.args.e (0, 0) ≡ get_or c.self.inside.keys.items (length c.self.inside.keys.items - 1) (0, 0) = λ l. c.swap_remove.ensures.by_index.0 (0, 0) (omega arith) ∙ ap (λ z. get_or c.self.inside.keys.items (z - 1) (0, 0)) w in
    let at_other : (k : ℕ) → k ≢ c.args.e → k < (length c.self.inside.keys.items - 1) → get_or c.swap_remove.new.self.items k (0, 0) ≡ get_or c.self.inside.keys.items k (0, 0) = λ k n l. c.swap_remove.ensures.by_index.1 k (0, 0) n (omega arith) in
    λ i h. subst (λ k. AreLinksRemoved c.args.self.now.ccw k c.args.e (map (ccw_at c.take_end-2.new.ends c.swap_remove.new.self.items) (range_with_len 0 (2 * length c.swap_remove.new.self.items)))) (left_over c.self.inside.ends c.self.inside.keys.items c.self.inside.first.items c.self.inside.keys.cap c.self.inside.first.cap c.args.self.now c.self.view_is i h)
    (subst (λ (z : LinkTables). AreLinksRemoved z.ccw (length c.self.inside.keys.items - 1) c.args.e (map (ccw_at c.take_end-2.new.ends c.swap_remove.new.self.items) (range_with_len 0 (2 * length c.swap_remove.new.self.items)))) c.self.view_is (ccw_after c.self.inside.ends c.self.inside.keys.items c.self.inside.first.items (length c.self.inside.keys.items - 1) c.args.e c.self.invariant R.few R.le R.back R.fore R.apart R.apart' c.renumber.new.ends renumbers_tail c.renumber-2.new.ends renumbers_head c.take_end.new.ends takes_tail c.take_end-2.new.ends takes_head c.swap_remove.new.self.items KL at_e at_other c.self.inside.keys.cap c.self.inside.first.cap 0 0 (set (set c.self.inside.first.items c.args.tail c.next_first.result) c.args.head c.next_first-2.result)))

pub returns-clause-first : goal.returns-clause-first
returns-clause-first c =
    let R : CanLeave c.self.inside.ends c.self.inside.keys.items (length c.self.inside.keys.items - 1) c.args.e = can_leave c.self.inside.ends c.self.inside.keys.items c.self.inside.first.items c.self.inside.keys.cap c.self.inside.first.cap c.args.self.now c.self.view_is c.args.e c.self.invariant c.requires.edge c.requires.back c.requires.forth c.requires.apart.0 c.requires.apart.1 in
    let pair : c.index.result.now ≡ get_or c.self.inside.keys.items c.args.e (0, 0) = c.index.ensures ∙ get_or_default c.self.inside.keys.items c.args.e c.index.result.now (0, 0) (omega (arith, R.few, R.le)) in
    let kt : c.index.result.now.0 ≡ key_of c.self.inside.keys.items (2 * c.args.e) = ap (λ (z : ℕ × ℕ). z.0) pair ∙ sym (key_tail c.self.inside.keys.items c.args.e) in
    let kh : c.index.result.now.1 ≡ key_of c.self.inside.keys.items (2 * c.args.e + 1) = ap (λ (z : ℕ × ℕ). z.1) pair ∙ sym (key_head c.self.inside.keys.items c.args.e) in
    let m : c.len.result ≡ length c.self.inside.keys.items = search rules in
    let last : c.index-2.result.now ≡ get_or c.self.inside.keys.items (length c.self.inside.keys.items - 1) (0, 0) = c.index-2.ensures ∙ ap (λ z. get_or c.self.inside.keys.items (z - 1) c.index-2.result.now) m ∙ get_or_default c.self.inside.keys.items (length c.self.inside.keys.items - 1) c.index-2.result.now (0, 0) (omega (arith, R.few)) in
    let lt : c.index-2.result.now.0 ≡ key_of c.self.inside.keys.items (2 * (length c.self.inside.keys.items - 1)) = ap (λ (z : ℕ × ℕ). z.0) last ∙ sym (key_tail c.self.inside.keys.items (length c.self.inside.keys.items - 1)) in
    let lh : c.index-2.result.now.1 ≡ key_of c.self.inside.keys.items (2 * (length c.self.inside.keys.items - 1) + 1) = ap (λ (z : ℕ × ℕ). z.1) last ∙ sym (key_head c.self.inside.keys.items (length c.self.inside.keys.items - 1)) in
    let renumbers_tail : RenumbersEnd c.self.inside.ends c.renumber.new.ends (key_of c.self.inside.keys.items (2 * (length c.self.inside.keys.items - 1))) (2 * c.args.e) = subst (λ z. RenumbersEnd c.self.inside.ends c.renumber.new.ends z (2 * c.args.e)) lt c.renumber.ensures.renumbers in
    let renumbers_head : RenumbersEnd c.renumber.new.ends c.renumber-2.new.ends (key_of c.self.inside.keys.items (2 * (length c.self.inside.keys.items - 1) + 1)) (2 * c.args.e + 1) = subst (λ z. RenumbersEnd c.renumber.new.ends c.renumber-2.new.ends z (2 * c.args.e + 1)) lh c.renumber-2.ensures.renumbers in
    let takes_tail : TakesEnd c.renumber-2.new.ends c.take_end.new.ends (key_of c.self.inside.keys.items (2 * c.args.e)) = subst (λ z. TakesEnd c.renumber-2.new.ends c.take_end.new.ends z) kt c.take_end.ensures.takes in
    let takes_head : TakesEnd c.take_end.new.ends c.take_end-2.new.ends (key_of c.self.inside.keys.items (2 * c.args.e + 1)) = subst (λ z. TakesEnd c.take_end.new.ends c.take_end-2.new.ends z) kh c.take_end-2.ensures.takes in
    let w : vec_len c.self.inside.keys ≡ length c.self.inside.keys.items = search rules in
    let w2 : vec_len c.swap_remove.new.self ≡ length c.swap_remove.new.self.items = search rules in
    let KL : length c.swap_remove.new.self.items ≡ (length c.self.inside.keys.items - 1) = omega (arith, c.swap_remove.ensures.len) in
    let at_e : c.args.e < (length c.self.inside.keys.items - 1) → get_or c.swap_remove.new.self.items c.args.e (0, 0) ≡ get_or c.self.inside.keys.items (length c.self.inside.keys.items - 1) (0, 0) = λ l. c.swap_remove.ensures.by_index.0 (0, 0) (omega arith) ∙ ap (λ z. get_or c.self.inside.keys.items (z - 1) (0, 0)) w in
    let at_other : (k : ℕ) → k ≢ c.args.e → k < (length c.self.inside.keys.items - 1) → get_or c.swap_remove.new.self.items k (0, 0) ≡ get_or c.self.inside.keys.items k (0, 0) = λ k n l. c.swap_remove.ensures.by_index.1 k (0, 0) n (omega arith) in
    let vt : c.args.tail < length c.self.inside.first.items = asked_vertex c.self.inside.ends c.self.inside.keys.items c.self.inside.first.items c.self.inside.keys.cap c.self.inside.first.cap c.args.self.now c.self.view_is c.args.tail c.requires.vertices.0 in
    let vh : c.args.head < length c.self.inside.first.items = asked_vertex c.self.inside.ends c.self.inside.keys.items c.self.inside.first.items c.self.inside.keys.cap c.self.inside.first.cap c.args.self.now c.self.view_is c.args.head c.requires.vertices.1 in
    let n1 : c.next_first.result ≡ next_first c.self.inside.ends (key_of c.self.inside.keys.items (2 * c.args.e)) (get_or c.self.inside.first.items c.args.tail None) = c.next_first.ensures ∙ ap (λ z. next_first c.self.inside.ends z c.index-3.result.now) kt ∙ ap (next_first c.self.inside.ends (key_of c.self.inside.keys.items (2 * c.args.e))) (c.index-3.ensures ∙ get_or_default c.self.inside.first.items c.args.tail c.index-3.result.now None vt) in
    let long : length (set c.self.inside.first.items c.args.tail (next_first c.self.inside.ends (key_of c.self.inside.keys.items (2 * c.args.e)) (get_or c.self.inside.first.items c.args.tail None))) ≡ length c.self.inside.first.items = length-set c.self.inside.first.items c.args.tail (next_first c.self.inside.ends (key_of c.self.inside.keys.items (2 * c.args.e)) (get_or c.self.inside.first.items c.args.tail None)) in
    let r4 : c.index-4.result.now ≡ get_or (set c.self.inside.first.items c.args.tail (next_first c.self.inside.ends (key_of c.self.inside.keys.items (2 * c.args.e)) (get_or c.self.inside.first.items c.args.tail None))) c.args.head None = c.index-4.ensures ∙ ap (λ z. get_or (set c.self.inside.first.items c.args.tail z) c.args.head c.index-4.result.now) n1 ∙ get_or_default (set c.self.inside.first.items c.args.tail (next_first c.self.inside.ends (key_of c.self.inside.keys.items (2 * c.args.e)) (get_or c.self.inside.first.items c.args.tail None))) c.args.head c.index-4.result.now None (omega arith) in
    let n2 : c.next_first-2.result ≡ next_first c.self.inside.ends (key_of c.self.inside.keys.items (2 * c.args.e + 1)) (get_or (set c.self.inside.first.items c.args.tail (next_first c.self.inside.ends (key_of c.self.inside.keys.items (2 * c.args.e)) (get_or c.self.inside.first.items c.args.tail None))) c.args.head None) = c.next_first-2.ensures ∙ ap (λ z. next_first c.self.inside.ends z c.index-4.result.now) kh ∙ ap (next_first c.self.inside.ends (key_of c.self.inside.keys.items (2 * c.args.e + 1))) r4 in
    let is : (set (set c.self.inside.first.items c.args.tail c.next_first.result) c.args.head c.next_first-2.result) ≡ set (set c.self.inside.first.items c.args.tail (next_first c.self.inside.ends (key_of c.self.inside.keys.items (2 * c.args.e)) (get_or c.self.inside.first.items c.args.tail None))) c.args.head (next_first c.self.inside.ends (key_of c.self.inside.keys.items (2 * c.args.e + 1)) (get_or (set c.self.inside.first.items c.args.tail (next_first c.self.inside.ends (key_of c.self.inside.keys.items (2 * c.args.e)) (get_or c.self.inside.first.items c.args.tail None))) c.args.head None)) = ap (λ z. set (set c.self.inside.first.items c.args.tail z) c.args.head c.next_first-2.result) n1 ∙ ap (set (set c.self.inside.first.items c.args.tail (next_first c.self.inside.ends (key_of c.self.inside.keys.items (2 * c.args.e)) (get_or c.self.inside.first.items c.args.tail None))) c.args.head) n2 in
    let ft : (v : ℕ) → v < length c.self.inside.first.items → first_at c.self.inside.ends (get_or c.self.inside.first.items v None) ≡ 2 * c.args.e → v ≡ c.args.tail = asked_first c.self.inside.ends c.self.inside.keys.items c.self.inside.first.items c.self.inside.keys.cap c.self.inside.first.cap c.args.self.now c.self.view_is (2 * c.args.e) c.args.tail c.requires.first_tail in
    let fh : (v : ℕ) → v < length c.self.inside.first.items → first_at c.self.inside.ends (get_or c.self.inside.first.items v None) ≡ 2 * c.args.e + 1 → v ≡ c.args.head = asked_first c.self.inside.ends c.self.inside.keys.items c.self.inside.first.items c.self.inside.keys.cap c.self.inside.first.cap c.args.self.now c.self.view_is (2 * c.args.e + 1) c.args.head c.requires.first_head in
    λ i h. first_is c.self.inside.ends c.self.inside.keys.items c.self.inside.first.items (length c.self.inside.keys.items - 1) c.args.e c.self.invariant R.few R.le R.back R.fore R.apart R.apart' c.renumber.new.ends renumbers_tail c.renumber-2.new.ends renumbers_head c.take_end.new.ends takes_tail c.take_end-2.new.ends takes_head c.swap_remove.new.self.items KL at_e at_other c.self.inside.keys.cap c.self.inside.first.cap 0 0 (set (set c.self.inside.first.items c.args.tail c.next_first.result) c.args.head c.next_first-2.result) c.args.tail c.args.head vt vh c.requires.vertices.2 ft fh is ∙ ap (λ (z : LinkTables). map (first_left z.cw (length c.self.inside.keys.items - 1) c.args.e) z.first) c.self.view_is
    ∙ ap (λ k. map (first_left c.args.self.now.cw k c.args.e) c.args.self.now.first) (left_over c.self.inside.ends c.self.inside.keys.items c.self.inside.first.items c.self.inside.keys.cap c.self.inside.first.cap c.args.self.now c.self.view_is i h)
