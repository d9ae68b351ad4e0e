use Rattle.std.proofs.Common.{◌≡◌, ℕ, ◌-◌, ◌^◌, ◌<◌, ◌≤◌, List, length, get_or, ap, ◌∙◌, sym, subst, arith}
use Rattle.st_test.specs.Cycle.{back_list}
use Rattle.st_test.specs.BackTables.{AreBacks, IsLeastPlace, looped}
use Rattle.st_test.proofs.LongWalks.{closed}
use Rattle.st_test.proofs.CycleNaming.{named, is_loop, backs_in, passed_le}
use Rattle.st_test.proofs.cycle.name_cycle.Goals as goal

pub go_back-requires-clause-closed : goal.go_back-requires-clause-closed
go_back-requires-clause-closed c =
    let bk : AreBacks c.args.n c.args.ends.now c.args.left.now (length c.args.ends.now) c.deref.result.now =
    subst (λ z. AreBacks c.args.n c.args.ends.now c.args.left.now (length c.args.ends.now) z) (sym c.deref.ensures.value) c.in_ok-back.ensures in
    closed c.args.n c.args.ends.now c.args.order.now.vertices.items c.args.order.now.edges.items c.requires.within c.requires.stripped c.args.left.now c.requires.left
    c.deref.result.now c.requires.few.1 bk

pub list_loop-requires-clause-edges : goal.list_loop-requires-clause-edges
list_loop-requires-clause-edges c = λ k l.
    let bk : AreBacks c.args.n c.args.ends.now c.args.left.now (length c.args.ends.now) c.deref.result.now =
    subst (λ z. AreBacks c.args.n c.args.ends.now c.args.left.now (length c.args.ends.now) z) (sym c.deref.ensures.value) c.in_ok-back.ensures in
    let lp : IsLeastPlace c.in_ok-trail.trail.passed.items c.in_ok-trail.trail.first c.find_least-least.result =
    subst (λ z. IsLeastPlace z c.in_ok-trail.trail.first c.find_least-least.result) c.deref-2.ensures.value c.find_least-least.ensures in
    let l2 : k < length c.in_ok-trail.trail.passed.items = omega (arith, ap length c.deref-3.ensures.value) in
    let r : get_or c.in_ok-trail.trail.passed.items k 0 < length c.deref.result.now =
    backs_in c.args.n c.args.ends.now c.args.order.now.vertices.items c.args.order.now.edges.items c.args.left.now c.deref.result.now c.args.start c.in_ok-trail.trail.passed.items
    c.in_ok-trail.trail.first c.find_least-least.result c.requires.within c.requires.few.1 c.requires.stripped c.requires.left bk c.requires.there c.requires.is_one c.requires.first
    c.in_ok-trail.ensures lp k l2 in
    omega (arith, ap (λ (z : List ℕ). get_or z k 0) c.deref-3.ensures.value, ap length c.deref-4.ensures.value, ap length c.deref.ensures.value)

pub list_loop-requires-clause-few : goal.list_loop-requires-clause-few
list_loop-requires-clause-few c =
    let bk : AreBacks c.args.n c.args.ends.now c.args.left.now (length c.args.ends.now) c.deref.result.now =
    subst (λ z. AreBacks c.args.n c.args.ends.now c.args.left.now (length c.args.ends.now) z) (sym c.deref.ensures.value) c.in_ok-back.ensures in
    let lp : IsLeastPlace c.in_ok-trail.trail.passed.items c.in_ok-trail.trail.first c.find_least-least.result =
    subst (λ z. IsLeastPlace z c.in_ok-trail.trail.first c.find_least-least.result) c.deref-2.ensures.value c.find_least-least.ensures in
    let r : length c.in_ok-trail.trail.passed.items ≤ c.args.n =
    passed_le c.args.n c.args.ends.now c.args.order.now.vertices.items c.args.order.now.edges.items c.args.left.now c.deref.result.now c.args.start c.in_ok-trail.trail.passed.items
    c.in_ok-trail.trail.first c.find_least-least.result c.requires.within c.requires.few.1 c.requires.stripped c.requires.left bk c.requires.there c.requires.is_one c.requires.first
    c.in_ok-trail.ensures lp in
    let few : c.args.n < 2 ^ 30 = c.requires.few.0 in
    omega (arith, ap length c.deref-3.ensures.value)

pub returns : goal.returns
returns c =
    let bk : AreBacks c.args.n c.args.ends.now c.args.left.now (length c.args.ends.now) c.deref.result.now =
    subst (λ z. AreBacks c.args.n c.args.ends.now c.args.left.now (length c.args.ends.now) z) (sym c.deref.ensures.value) c.in_ok-back.ensures in
    let lp : IsLeastPlace c.in_ok-trail.trail.passed.items c.in_ok-trail.trail.first c.find_least-least.result =
    subst (λ z. IsLeastPlace z c.in_ok-trail.trail.first c.find_least-least.result) c.deref-2.ensures.value c.find_least-least.ensures in
    let q : c.in_ok-es.es ≡ back_list (looped c.in_ok-trail.trail.passed.items c.deref.result.now c.in_ok-trail.trail.first) c.find_least-least.result
    (length c.in_ok-trail.trail.passed.items - c.in_ok-trail.trail.first) =
    c.in_ok-es.ensures
    ∙ ap (λ (z : List ℕ). back_list (looped z c.deref-4.result.now c.in_ok-trail.trail.first) c.find_least-least.result (length z - c.in_ok-trail.trail.first)) c.deref-3.ensures.value
    ∙ ap (λ (z : List ℕ). back_list (looped c.in_ok-trail.trail.passed.items z c.in_ok-trail.trail.first) c.find_least-least.result
    (length c.in_ok-trail.trail.passed.items - c.in_ok-trail.trail.first)) (c.deref-4.ensures.value ∙ sym c.deref.ensures.value) in (
      named c.args.n c.args.ends.now c.args.order.now.vertices.items c.args.order.now.edges.items c.args.left.now c.deref.result.now c.args.start c.in_ok-trail.trail.passed.items
          c.in_ok-trail.trail.first c.find_least-least.result c.requires.within c.requires.few.1 c.requires.stripped c.requires.left bk c.requires.there c.requires.is_one c.requires.first
          c.in_ok-trail.ensures lp c.in_ok-es.es q,
      is_loop c.args.n c.args.ends.now c.args.order.now.vertices.items c.args.order.now.edges.items c.args.left.now c.deref.result.now c.args.start c.in_ok-trail.trail.passed.items
          c.in_ok-trail.trail.first c.find_least-least.result c.requires.within c.requires.few.1 c.requires.stripped c.requires.left bk c.requires.there c.requires.is_one c.requires.first
          c.in_ok-trail.ensures lp c.in_ok-es.es q,
    )
