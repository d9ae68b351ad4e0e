use Rattle.std.proofs.Common.{◌≡◌, ℕ, ◌+◌, ◌<◌, List, [], length, Option, ap, ◌∙◌, sym, subst, arith}
use Rattle.std.proofs.lemmas.List.{get_or_default}
use Rattle.st_ids.specs.EdgeNumbers.{numbers}
use Rattle.st_map.specs.Chains.{AreFirstKeysOf, IsListChained, first_key}
use Rattle.st_map.specs.Orders.{order_at}
use Rattle.st_map.specs.Tables.{AreEdges, IsLawful}
use Rattle.st_map.proofs.ChainLemmas.{chains_more, first_more}
use Rattle.st_map.proofs.links.link_lists.Goals as goal

pub link_list-key-requires-clause-edges : goal.link_list-key-requires-clause-edges
link_list-key-requires-clause-edges c =
    let lv : c.loop-v.v < length c.args.orders.now = omega (arith, c.loop-v-test.true, c.requires.lists) in
    let q : numbers c.items.result.now ≡ order_at c.args.orders.now c.loop-v.v =
    c.items.ensures ∙ c.get.ensures.read ∙ get_or_default c.args.orders.now c.loop-v.v c.get.result.now [] lv in
    subst (λ z. AreEdges c.args.arcs.now z) (sym q) (c.requires.edges c.loop-v.v c.loop-v-test.true)

pub link_list-key-requires-clause-lawful : goal.link_list-key-requires-clause-lawful
link_list-key-requires-clause-lawful c =
    let lv : c.loop-v.v < length c.args.orders.now = omega (arith, c.loop-v-test.true, c.requires.lists) in
    let q : numbers c.items.result.now ≡ order_at c.args.orders.now c.loop-v.v =
    c.items.ensures ∙ c.get.ensures.read ∙ get_or_default c.args.orders.now c.loop-v.v c.get.result.now [] lv in
    subst (λ z. IsLawful c.args.arcs.now c.loop-v.v z) (sym q) (c.requires.lawful c.loop-v.v c.loop-v-test.true)

pub loop-v-preserved : goal.loop-v-preserved
loop-v-preserved c =
    let lv : c.loop-v.v < length c.args.orders.now = omega (arith, c.loop-v-test.true, c.requires.lists) in
    let q : numbers c.items.result.now ≡ order_at c.args.orders.now c.loop-v.v =
    c.items.ensures ∙ c.get.ensures.read ∙ get_or_default c.args.orders.now c.loop-v.v c.get.result.now [] lv in
    let r : IsListChained c.loop-v.ends c.link_list-key.new.ends c.args.keys.now c.args.arcs.now c.loop-v.v (order_at c.args.orders.now c.loop-v.v) (length (order_at c.args.orders.now c.loop-v.v)) =
    subst (λ (z : List ℕ). IsListChained c.loop-v.ends c.link_list-key.new.ends c.args.keys.now c.args.arcs.now c.loop-v.v z (length z)) q c.link_list-key.ensures.chained in
    let k : c.link_list-key.result ≡ first_key c.args.keys.now c.args.arcs.now c.loop-v.v (order_at c.args.orders.now c.loop-v.v) =
    c.link_list-key.ensures.first ∙ ap (first_key c.args.keys.now c.args.arcs.now c.loop-v.v) q in
    record {
      chained = chains_more c.args.n c.args.keys.now c.args.arcs.now c.args.orders.now c.requires.size c.requires.edges c.requires.lawful c.loop-v.v
          c.loop-v.ends c.link_list-key.new.ends c.loop-v-test.true c.loop-v.invariant.chained r;
      first = subst (λ (z : List (Option ℕ)). AreFirstKeysOf c.args.keys.now c.args.arcs.now c.args.orders.now (c.loop-v.v + 1) z) (sym c.in_ok-push.ensures.items)
          (first_more c.args.keys.now c.args.arcs.now c.args.orders.now c.loop-v.v c.loop-v.first.items c.link_list-key.result c.loop-v.invariant.first k);
      count = r.count ∙ c.loop-v.invariant.count;
    }
