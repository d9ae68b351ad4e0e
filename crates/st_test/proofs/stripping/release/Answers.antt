use Rattle.std.proofs.Common.{◌≡◌, ℕ, ◌+◌, ◌-◌, ◌<◌, ◌≤◌, List, ◌∷◌, [], ◌++◌, length, get_or, ap, ◌∙◌, sym, subst, arith}
use Rattle.std.proofs.Math.ListN.{set}
use Rattle.st_ids.specs.Graph.{tail_of, head_of}
use Rattle.st_map.specs.Tables.{leaves}
use Rattle.st_test.specs.Stripping.{last_below}
use Rattle.st_test.specs.StripState.{AreGoing}
use Rattle.st_test.proofs.StripSteps.{last_below-le}
use Rattle.st_test.proofs.StripGoing.{going_none, going_all, going_on, going_next, some_left}
use Rattle.st_test.proofs.stripping.release.Goals as goal
use Rattle.st_test.proofs.stripping.release.Goals.{then-left-eq0+in_ok-push-2, else-left-eq0}

pub loop-link-init : goal.loop-link-init
unfolding tail_of head_of
loop-link-init c = going_none (length c.args.degree.now) c.args.ends.now c.args.place c.args.order.now.items c.args.order.now.items c.args.es.now.items c.args.degree.now
    c.requires.within c.requires.place c.args.last c.requires.last c.requires.ready

pub overflow_sub-left : goal.overflow_sub-left
unfolding tail_of head_of
overflow_sub-left c = some_left (length c.args.degree.now) c.args.ends.now c.args.place c.args.order.now.items c.loop-link.order.items c.loop-link.es.items c.loop-link.degree
    c.requires.within c.requires.place c.loop-link.link (c.loop-link.link - 1) (omega arith) c.loop-link.invariant

pub loop-link-smaller : goal.loop-link-smaller
unfolding tail_of head_of
loop-link-smaller c =
    let e : ℕ = c.loop-link.link - 1 in
    let l : c.loop-link.link - 1 < length c.args.ends.now = omega (arith, c.loop-link.invariant.within) in
    omega (arith, c.requires.before.each (c.loop-link.link - 1) l, last_below-le (c.loop-link.link - 1) (leaves c.args.ends.now (tail_of c.args.ends.now (c.loop-link.link - 1))))

pub loop-link-preserved : goal.loop-link-preserved
unfolding tail_of head_of
loop-link-preserved c =
    let n : ℕ = length c.args.degree.now in
    let ends : List (ℕ × ℕ) = c.args.ends.now in
    let e : ℕ = c.loop-link.link - 1 in
    let l : c.loop-link.link - 1 < length c.args.ends.now = omega (arith, c.loop-link.invariant.within) in
    let next : c.loop-link.link - 1 + 1 ≡ c.loop-link.link = omega arith in
    let some : 1 ≤ get_or c.loop-link.degree (head_of c.args.ends.now (c.loop-link.link - 1)) 0 =
    some_left n ends c.args.place c.args.order.now.items c.loop-link.order.items c.loop-link.es.items c.loop-link.degree
    c.requires.within c.requires.place c.loop-link.link e next c.loop-link.invariant in
    let d : ℕ = get_or c.loop-link.degree (head_of c.args.ends.now (c.loop-link.link - 1)) 0 - 1 in
    let de : get_or c.loop-link.degree (head_of c.args.ends.now (c.loop-link.link - 1)) 0 - 1 + 1 ≡ get_or c.loop-link.degree (head_of c.args.ends.now (c.loop-link.link - 1)) 0 = omega arith in
    let j : ℕ = get_or c.args.before.now (c.loop-link.link - 1) 0 in
    let jq : get_or c.args.before.now (c.loop-link.link - 1) 0 ≡ last_below (c.loop-link.link - 1) (leaves c.args.ends.now (tail_of c.args.ends.now (c.loop-link.link - 1))) = c.requires.before.each e l in
    let es_is : c.push.new.self.items ≡ c.loop-link.es.items ++ (c.loop-link.link - 1) ∷ [] = c.in_ok-push.ensures.items in
    elim c.if-left-eq0.branch [
      | then-left-eq0+in_ok-push-2 w ↦
          subst (λ z. AreGoing n ends c.args.place c.args.order.now.items z c.push.new.self.items (set c.loop-link.degree (head_of ends e) d) j)
          (sym (ap (λ v. v.items) w.order-is ∙ w.in_ok-push-2.ensures.items))
          (subst (λ z. AreGoing n ends c.args.place c.args.order.now.items (c.loop-link.order.items ++ head_of ends e ∷ []) z (set c.loop-link.degree (head_of ends e) d) j) (sym es_is)
          (going_next n ends c.args.place c.args.order.now.items c.loop-link.order.items c.loop-link.es.items c.loop-link.degree
          c.requires.within c.requires.place c.loop-link.link e next c.loop-link.invariant d j de w.if-left-eq0.true jq))
      | else-left-eq0 w ↦
          subst (λ z. AreGoing n ends c.args.place c.args.order.now.items z c.push.new.self.items (set c.loop-link.degree (head_of ends e) d) j)
          (sym (ap (λ v. v.items) w.order-is))
          (subst (λ z. AreGoing n ends c.args.place c.args.order.now.items c.loop-link.order.items z (set c.loop-link.degree (head_of ends e) d) j) (sym es_is)
          (going_on n ends c.args.place c.args.order.now.items c.loop-link.order.items c.loop-link.es.items c.loop-link.degree
          c.requires.within c.requires.place c.loop-link.link e next c.loop-link.invariant d j de w.if-left-eq0.false jq))
    ]

pub returns-clause-done : goal.returns-clause-done
unfolding tail_of head_of
returns-clause-done c = going_all (length c.args.degree.now) c.args.ends.now c.args.place c.args.order.now.items c.loop-link.order.items c.loop-link.es.items c.loop-link.degree
    c.requires.within c.requires.place c.loop-link.link c.loop-link.invariant (λ l. omega (arith, c.loop-link-test.false))
