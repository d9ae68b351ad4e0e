use Rattle.std.proofs.Common.{◌≡◌, ◌-◌, ◌*◌, ◌<◌, IsSome, Some, length, get_or, refl, ap, ◌∙◌, sym, subst, arith}
use Rattle.slab.specs.Slab.{Updates}
use Rattle.st_ids.specs.EdgeNumbers.{numbers}
use Rattle.st_map.specs.declared.links.End.{End}
use Rattle.st_map.specs.Chains.{IsListChained, chained_end, linked_to, listed_end, place_before}
use Rattle.st_map.specs.Links.{key_of}
use Rattle.st_map.specs.Orders.{end_at}
use Rattle.st_map.specs.Tables.{place_after}
use Rattle.st_map.proofs.ChainLemmas.{before_next, chain_more, chain_none, first_none, first_some, next_place}
use Rattle.st_map.proofs.TableLemmas.{end_below, place_inner}
use Rattle.st_map.proofs.links.link_list.Goals as goal

pub returns-then-len-eq0-clause-chained : goal.returns-then-len-eq0-clause-chained
returns-then-len-eq0-clause-chained c =
    chain_none c.args.ends.now c.args.keys.now c.args.arcs.now c.args.v (numbers c.args.list.now) (length (numbers c.args.list.now)) c.requires.named (omega (arith, c.list_len-len.ensures))

pub returns-then-len-eq0-clause-first : goal.returns-then-len-eq0-clause-first
returns-then-len-eq0-clause-first c = sym (first_none c.args.keys.now c.args.arcs.now c.args.v (numbers c.args.list.now) (omega (arith, c.list_len-len.ensures)))

pub loop-k-init : goal.loop-k-init
loop-k-init c = record {
  chained = chain_none c.args.ends.now c.args.keys.now c.args.arcs.now c.args.v (numbers c.args.list.now) 0 c.requires.named refl;
  at = λ l. c.end_of-first.ensures.value ∙ ap (end_at c.args.arcs.now c.args.v) c.edge_at.ensures;
  ccw = λ l.
      c.key_at-ccw.ensures ∙ ap (key_of c.args.keys.now) (c.end_of-last.ensures.value ∙ ap (end_at c.args.arcs.now c.args.v) (c.edge_at-2.ensures
      ∙ ap (λ z. get_or (numbers c.args.list.now) (z - 1) 0) c.list_len-len.ensures));
}

pub link_end-ccw-requires-clause-end : goal.link_end-ccw-requires-clause-end
link_end-ccw-requires-clause-end c =
    let lk : c.loop-k.k < length (numbers c.args.list.now) = omega (arith, c.loop-k-test.true, c.list_len-len.ensures) in
    let b : listed_end c.args.arcs.now c.args.v (numbers c.args.list.now) c.loop-k.k < 2 * length c.args.arcs.now =
    end_below c.args.arcs.now c.args.v (get_or (numbers c.args.list.now) c.loop-k.k 0) (c.requires.edges c.loop-k.k lk) in
    omega (arith, c.loop-k.invariant.at lk, c.requires.size)

pub link_end-ccw-requires-clause-there : goal.link_end-ccw-requires-clause-there
link_end-ccw-requires-clause-there c =
    let lk : c.loop-k.k < length (numbers c.args.list.now) = omega (arith, c.loop-k-test.true, c.list_len-len.ensures) in
    let b : listed_end c.args.arcs.now c.args.v (numbers c.args.list.now) c.loop-k.k < 2 * length c.args.arcs.now =
    end_below c.args.arcs.now c.args.v (get_or (numbers c.args.list.now) c.loop-k.k 0) (c.requires.edges c.loop-k.k lk) in
    let r = c.loop-k.invariant.chained.named.each c.loop-k.at (omega (arith, c.loop-k.invariant.at lk, c.requires.size)) in
    subst IsSome (sym r.1) refl

pub loop-k-preserved : goal.loop-k-preserved
loop-k-preserved c =
    let lk : c.loop-k.k < length (numbers c.args.list.now) = omega (arith, c.loop-k-test.true, c.list_len-len.ensures) in
    let p : c.following.result ≡ place_after (length (numbers c.args.list.now)) c.loop-k.k = c.following.ensures.value ∙ ap (λ z. place_after z c.loop-k.k) c.list_len-len.ensures in
    let a : c.loop-k.at ≡ listed_end c.args.arcs.now c.args.v (numbers c.args.list.now) c.loop-k.k = c.loop-k.invariant.at lk in
    let w : c.loop-k.ccw ≡ key_of c.args.keys.now (listed_end c.args.arcs.now c.args.v (numbers c.args.list.now) (place_before (length (numbers c.args.list.now)) c.loop-k.k)) = c.loop-k.invariant.ccw lk in
    let b : c.end_of-next.result ≡ listed_end c.args.arcs.now c.args.v (numbers c.args.list.now) (place_after (length (numbers c.args.list.now)) c.loop-k.k) =
    c.end_of-next.ensures.value ∙ ap (end_at c.args.arcs.now c.args.v) (c.edge_at-in-loop-k.ensures ∙ ap (λ z. get_or (numbers c.args.list.now) z 0) p) in
    let f : c.key_at-cw.result ≡ key_of c.args.keys.now (listed_end c.args.arcs.now c.args.v (numbers c.args.list.now) (place_after (length (numbers c.args.list.now)) c.loop-k.k)) =
    c.key_at-cw.ensures ∙ ap (key_of c.args.keys.now) b in
    let r : linked_to c.args.keys.now c.loop-k.at c.key_at-cw.result c.loop-k.ccw ≡ chained_end c.args.keys.now c.args.arcs.now c.args.v (numbers c.args.list.now) c.loop-k.k =
    ap (λ z. linked_to c.args.keys.now z c.key_at-cw.result c.loop-k.ccw) a
    ∙ ap (λ z. linked_to c.args.keys.now (listed_end c.args.arcs.now c.args.v (numbers c.args.list.now) c.loop-k.k) z c.loop-k.ccw) f
    ∙ ap (λ z. linked_to c.args.keys.now (listed_end c.args.arcs.now c.args.v (numbers c.args.list.now) c.loop-k.k)
    (key_of c.args.keys.now (listed_end c.args.arcs.now c.args.v (numbers c.args.list.now) (place_after (length (numbers c.args.list.now)) c.loop-k.k))) z) w in
    let u : Updates c.loop-k.ends c.link_end-ccw.new.ends (key_of c.args.keys.now (listed_end c.args.arcs.now c.args.v (numbers c.args.list.now) c.loop-k.k))
    (Some (chained_end c.args.keys.now c.args.arcs.now c.args.v (numbers c.args.list.now) c.loop-k.k)) =
    subst (λ z. Updates c.loop-k.ends c.link_end-ccw.new.ends (key_of c.args.keys.now z) (Some (chained_end c.args.keys.now c.args.arcs.now c.args.v (numbers c.args.list.now) c.loop-k.k))) a
    (subst (λ (z : End). Updates c.loop-k.ends c.link_end-ccw.new.ends (key_of c.args.keys.now c.loop-k.at) (Some z)) r c.link_end-ccw.ensures.updates) in
    record {
      chained = chain_more c.args.ends.now c.loop-k.ends c.link_end-ccw.new.ends c.args.keys.now c.args.arcs.now c.args.v (numbers c.args.list.now) c.loop-k.k
          c.requires.size c.requires.edges c.requires.lawful lk c.loop-k.invariant.chained u c.link_end-ccw.ensures.len;
      at = λ l.
          b ∙ ap (listed_end c.args.arcs.now c.args.v (numbers c.args.list.now)) (place_inner (length (numbers c.args.list.now)) c.loop-k.k l)
          ∙ ap (listed_end c.args.arcs.now c.args.v (numbers c.args.list.now)) (next_place c.loop-k.k);
      ccw = λ l.
          c.link_end-ccw.ensures.key ∙ ap (key_of c.args.keys.now) a
          ∙ sym (ap (λ z. key_of c.args.keys.now (listed_end c.args.arcs.now c.args.v (numbers c.args.list.now) z)) (before_next (length (numbers c.args.list.now)) c.loop-k.k));
    }

pub returns-clause-first : goal.returns-clause-first
returns-clause-first c =
    let some : 0 < length (numbers c.args.list.now) = omega (arith, c.list_len-len.ensures) in
    ap Some (c.key_at.ensures ∙ ap (key_of c.args.keys.now) (c.end_of-first.ensures.value ∙ ap (end_at c.args.arcs.now c.args.v) c.edge_at.ensures))
    ∙ sym (first_some c.args.keys.now c.args.arcs.now c.args.v (numbers c.args.list.now) some)

pub returns-clause-chained : goal.returns-clause-chained
returns-clause-chained c =
    let q : c.loop-k.k ≡ length (numbers c.args.list.now) = omega (arith, c.loop-k.auto.k-end, c.loop-k-test.false, c.list_len-len.ensures) in
    subst (λ z. IsListChained c.args.ends.now c.loop-k.ends c.args.keys.now c.args.arcs.now c.args.v (numbers c.args.list.now) z) q c.loop-k.invariant.chained
