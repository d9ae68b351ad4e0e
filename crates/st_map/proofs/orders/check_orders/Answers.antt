use Rattle.std.proofs.Common.{◌≡◌, ℕ, ◌<◌, inl, inr, List, [], length, get_or, refl, ap, ◌∙◌, sym, subst, arith}
use Rattle.std.specs.Vec.{with_items}
use Rattle.std.proofs.lemmas.List.{get_or_default, with_items_is}
use Rattle.std.proofs.lemmas.Bool.{cases_lt, both_ways}
use Rattle.st_ids.specs.EdgeNumbers.{numbers}
use Rattle.st_map.specs.Orders.{IsOrderAt, order_at}
use Rattle.st_map.specs.Tables.{AreEdges, IsLawful}
use Rattle.st_map.proofs.OrderLemmas.{degree_is, order_of, lawful_of}
use Rattle.st_map.proofs.orders.check_orders.Goals as goal

pub is_lawful-requires-clause-edges : goal.is_lawful-requires-clause-edges
is_lawful-requires-clause-edges c =
    let lv : c.loop-v.v < length c.args.orders.now = omega (arith, c.loop-v-test.true, c.requires.size) in
    let q : numbers c.items.result.now ≡ order_at c.args.orders.now c.loop-v.v =
    c.items.ensures ∙ c.get.ensures.read ∙ get_or_default c.args.orders.now c.loop-v.v c.get.result.now [] lv in
    subst (λ z. AreEdges c.args.ends.now z) (sym q) (c.requires.edges c.loop-v.v c.loop-v-test.true)

pub is_lawful-requires-clause-degree : goal.is_lawful-requires-clause-degree
is_lawful-requires-clause-degree c =
    c.requires.degrees.each c.loop-v.v c.loop-v-test.true ∙ degree_is c.args.ends.now c.loop-v.v c.requires.no_loop

pub returns-then-not-is_lawful : goal.returns-then-not-is_lawful
returns-then-not-is_lawful c =
    let lv : c.loop-v.v < length c.args.orders.now = omega (arith, c.loop-v-test.true, c.requires.size) in
    let q : numbers c.items.result.now ≡ order_at c.args.orders.now c.loop-v.v =
    c.items.ensures ∙ c.get.ensures.read ∙ get_or_default c.args.orders.now c.loop-v.v c.get.result.now [] lv in (
      c.loop-v-test.true,
      λ o. (let lawful : IsLawful c.args.ends.now c.loop-v.v (numbers c.items.result.now) =
          subst (λ z. IsLawful c.args.ends.now c.loop-v.v z) (sym q) (lawful_of c.args.ends.now c.loop-v.v (order_at c.args.orders.now c.loop-v.v) o) in
          both_ways c.is_lawful.result c.if-not-is_lawful.true (c.is_lawful.ensures.lawful.1 lawful)),
      c.loop-v.invariant.done,
    )

pub loop-v-preserved : goal.loop-v-preserved
loop-v-preserved c =
    let lv : c.loop-v.v < length c.args.orders.now = omega (arith, c.loop-v-test.true, c.requires.size) in
    let q : numbers c.items.result.now ≡ order_at c.args.orders.now c.loop-v.v =
    c.items.ensures ∙ c.get.ensures.read ∙ get_or_default c.args.orders.now c.loop-v.v c.get.result.now [] lv in
    let old : c.deref_mut.result.now ≡ c.loop-v.seen.items = c.deref_mut.ensures.value in
    let len : length c.is_lawful.new.seen ≡ length c.loop-v.seen.items = c.is_lawful.auto.seen ∙ ap length old in
    let is : (with_items c.loop-v.seen c.is_lawful.new.seen).items ≡ c.is_lawful.new.seen = with_items_is c.loop-v.seen c.is_lawful.new.seen (len ∙ sym c.loop-v.seen.ok.0) in
    let row : IsLawful c.args.ends.now c.loop-v.v (order_at c.args.orders.now c.loop-v.v) =
    subst (λ z. IsLawful c.args.ends.now c.loop-v.v z) q (c.if-not-is_lawful.ensures.lawful.0 refl) in
    let here : IsOrderAt c.args.ends.now c.loop-v.v (order_at c.args.orders.now c.loop-v.v) =
    order_of c.args.ends.now c.loop-v.v (order_at c.args.orders.now c.loop-v.v) (c.requires.edges c.loop-v.v c.loop-v-test.true) row in
    record {
      size = ap length is ∙ len ∙ c.loop-v.invariant.size;
      done = λ u l. elim (cases_lt u c.loop-v.v) [
        | inl a ↦ c.loop-v.invariant.done u a
        | inr b ↦
            let e : c.loop-v.v ≡ u = omega arith in
            subst (λ z. IsOrderAt c.args.ends.now z (order_at c.args.orders.now z)) e here
      ];
      seen = λ e l.
          let new : get_or (with_items c.loop-v.seen c.is_lawful.new.seen).items e 0 ≡ get_or c.is_lawful.new.seen e 0 = ap (λ (z : List ℕ). get_or z e 0) is in
          elim (c.is_lawful.ensures.seen e l) [
            | inl a ↦ inl (omega (arith, new))
            | inr b ↦
                let o : get_or c.deref_mut.result.now e 0 ≡ get_or c.loop-v.seen.items e 0 = ap (λ (z : List ℕ). get_or z e 0) old in
                elim (c.loop-v.invariant.seen e l) [
                  | inl x ↦ inl (omega (arith, new))
                  | inr y ↦ inr (new ∙ b ∙ o ∙ y)
                ]
          ];
    }
