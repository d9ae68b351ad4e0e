use Rattle.std.proofs.Common.{rules, ◌≡◌, ℕ, suc, ◌*◌, ◌<◌, ◌^◌, List, IsSome, map, length, get_or, sym, ap, ◌∙◌, subst, arith}
use Rattle.std.specs.List.{range_with_len}
use Rattle.slab.specs.Slab.{get}
use Rattle.st_ids.specs.Ends.{twin}
use Rattle.st_map.specs.declared.links.End.{End}
use Rattle.st_map.specs.Links.{AreLinks, InsertsEnds, LinkTables, ccw_at, cw_at, end_in, key_of, links_of}
use Rattle.st_map.specs.Tables.{put_entry}
use Rattle.st_map.proofs.LinkLemmas.{asked_cw, end_is, end_there, length-cw, read_end}
use Rattle.st_map.proofs.LinkInsert.{ccw_after, cw_after, first_same, keys_after, links_after}
use Rattle.st_map.proofs.links.Links.insert.Goals as goal

pub key_at-a-requires : goal.key_at-a-requires
key_at-a-requires c =
    let la : c.args.a < 2 * length c.self.inside.keys.items = asked_cw c.self.inside.ends c.self.inside.keys.items c.self.inside.first.items c.self.inside.keys.cap c.self.inside.first.cap c.args.self.now c.self.view_is c.args.a c.requires.there.0 in
    let lb : c.args.b < 2 * length c.self.inside.keys.items = asked_cw c.self.inside.ends c.self.inside.keys.items c.self.inside.first.items c.self.inside.keys.cap c.self.inside.first.cap c.args.self.now c.self.view_is c.args.b c.requires.there.1 in
    omega (arith, ap length c.deref.ensures.value)

pub key_at-b-requires : goal.key_at-b-requires
key_at-b-requires c =
    let la : c.args.a < 2 * length c.self.inside.keys.items = asked_cw c.self.inside.ends c.self.inside.keys.items c.self.inside.first.items c.self.inside.keys.cap c.self.inside.first.cap c.args.self.now c.self.view_is c.args.a c.requires.there.0 in
    let lb : c.args.b < 2 * length c.self.inside.keys.items = asked_cw c.self.inside.ends c.self.inside.keys.items c.self.inside.first.items c.self.inside.keys.cap c.self.inside.first.cap c.args.self.now c.self.view_is c.args.b c.requires.there.1 in
    omega (arith, ap length c.deref-2.ensures.value)

pub index-requires : goal.index-requires
index-requires c =
    let la : c.args.a < 2 * length c.self.inside.keys.items = asked_cw c.self.inside.ends c.self.inside.keys.items c.self.inside.first.items c.self.inside.keys.cap c.self.inside.first.cap c.args.self.now c.self.view_is c.args.a c.requires.there.0 in
    let lb : c.args.b < 2 * length c.self.inside.keys.items = asked_cw c.self.inside.ends c.self.inside.keys.items c.self.inside.first.items c.self.inside.keys.cap c.self.inside.first.cap c.args.self.now c.self.view_is c.args.b c.requires.there.1 in
    let ka : c.key_at-a.result ≡ key_of c.self.inside.keys.items c.args.a = c.key_at-a.ensures ∙ ap (λ z. key_of z c.args.a) c.deref.ensures.value in
    let kb : c.key_at-b.result ≡ key_of c.self.inside.keys.items c.args.b = c.key_at-b.ensures ∙ ap (λ z. key_of z c.args.b) c.deref-2.ensures.value in
    subst (λ z. IsSome (get c.self.inside.ends z)) (sym ka) (end_there c.self.inside.ends c.self.inside.keys.items c.self.inside.first.items 0 0 c.self.invariant c.args.a la)

pub index-requires-2 : goal.index-requires-2
index-requires-2 c =
    let la : c.args.a < 2 * length c.self.inside.keys.items = asked_cw c.self.inside.ends c.self.inside.keys.items c.self.inside.first.items c.self.inside.keys.cap c.self.inside.first.cap c.args.self.now c.self.view_is c.args.a c.requires.there.0 in
    let lb : c.args.b < 2 * length c.self.inside.keys.items = asked_cw c.self.inside.ends c.self.inside.keys.items c.self.inside.first.items c.self.inside.keys.cap c.self.inside.first.cap c.args.self.now c.self.view_is c.args.b c.requires.there.1 in
    let ka : c.key_at-a.result ≡ key_of c.self.inside.keys.items c.args.a = c.key_at-a.ensures ∙ ap (λ z. key_of z c.args.a) c.deref.ensures.value in
    let kb : c.key_at-b.result ≡ key_of c.self.inside.keys.items c.args.b = c.key_at-b.ensures ∙ ap (λ z. key_of z c.args.b) c.deref-2.ensures.value in
    subst (λ z. IsSome (get c.self.inside.ends z)) (sym kb) (end_there c.self.inside.ends c.self.inside.keys.items c.self.inside.first.items 0 0 c.self.invariant c.args.b lb)

pub insert_ends-tail-requires-clause-room : goal.insert_ends-tail-requires-clause-room
insert_ends-tail-requires-clause-room c =
    omega (arith, c.self.invariant.count, c.requires.room.ends, length-cw c.self.inside.ends c.self.inside.keys.items c.self.inside.first.items c.self.inside.keys.cap c.self.inside.first.cap, ap (λ (z : LinkTables). length z.cw) c.self.view_is, ap (λ (z : LinkTables). z.room_ends) c.self.view_is)

pub insert_ends-tail-requires-clause-a : goal.insert_ends-tail-requires-clause-a
insert_ends-tail-requires-clause-a c =
    let la : c.args.a < 2 * length c.self.inside.keys.items = asked_cw c.self.inside.ends c.self.inside.keys.items c.self.inside.first.items c.self.inside.keys.cap c.self.inside.first.cap c.args.self.now c.self.view_is c.args.a c.requires.there.0 in
    let lb : c.args.b < 2 * length c.self.inside.keys.items = asked_cw c.self.inside.ends c.self.inside.keys.items c.self.inside.first.items c.self.inside.keys.cap c.self.inside.first.cap c.args.self.now c.self.view_is c.args.b c.requires.there.1 in
    let ka : c.key_at-a.result ≡ key_of c.self.inside.keys.items c.args.a = c.key_at-a.ensures ∙ ap (λ z. key_of z c.args.a) c.deref.ensures.value in
    let kb : c.key_at-b.result ≡ key_of c.self.inside.keys.items c.args.b = c.key_at-b.ensures ∙ ap (λ z. key_of z c.args.b) c.deref-2.ensures.value in
    let na : c.index.result.now.cw ≡ key_of c.self.inside.keys.items (cw_at c.self.inside.ends c.self.inside.keys.items c.args.a) =
    ap (λ (z : End). z.cw) (read_end c.self.inside.ends c.key_at-a.result c.index.result.now c.index.ensures ∙ ap (end_in c.self.inside.ends) ka ∙ end_is c.self.inside.ends (2 * length c.self.inside.keys.items) (key_of c.self.inside.keys.items) (λ d. key_of c.self.inside.keys.items (twin d)) (cw_at c.self.inside.ends c.self.inside.keys.items) (ccw_at c.self.inside.ends c.self.inside.keys.items) c.self.invariant.linked c.args.a la) in
    let nb : c.index-2.result.now.cw ≡ key_of c.self.inside.keys.items (cw_at c.self.inside.ends c.self.inside.keys.items c.args.b) =
    ap (λ (z : End). z.cw) (read_end c.self.inside.ends c.key_at-b.result c.index-2.result.now c.index-2.ensures ∙ ap (end_in c.self.inside.ends) kb ∙ end_is c.self.inside.ends (2 * length c.self.inside.keys.items) (key_of c.self.inside.keys.items) (λ d. key_of c.self.inside.keys.items (twin d)) (cw_at c.self.inside.ends c.self.inside.keys.items) (ccw_at c.self.inside.ends c.self.inside.keys.items) c.self.invariant.linked c.args.b lb) in (
      subst (λ z. IsSome (get c.self.inside.ends z)) (sym ka) (end_there c.self.inside.ends c.self.inside.keys.items c.self.inside.first.items 0 0 c.self.invariant c.args.a la),
      subst (λ z. IsSome (get c.self.inside.ends z)) (sym na) (end_there c.self.inside.ends c.self.inside.keys.items c.self.inside.first.items 0 0 c.self.invariant (cw_at c.self.inside.ends c.self.inside.keys.items c.args.a) (c.self.invariant.linked.cw_in c.args.a la)),
    )

pub insert_ends-tail-requires-clause-b : goal.insert_ends-tail-requires-clause-b
insert_ends-tail-requires-clause-b c =
    let la : c.args.a < 2 * length c.self.inside.keys.items = asked_cw c.self.inside.ends c.self.inside.keys.items c.self.inside.first.items c.self.inside.keys.cap c.self.inside.first.cap c.args.self.now c.self.view_is c.args.a c.requires.there.0 in
    let lb : c.args.b < 2 * length c.self.inside.keys.items = asked_cw c.self.inside.ends c.self.inside.keys.items c.self.inside.first.items c.self.inside.keys.cap c.self.inside.first.cap c.args.self.now c.self.view_is c.args.b c.requires.there.1 in
    let ka : c.key_at-a.result ≡ key_of c.self.inside.keys.items c.args.a = c.key_at-a.ensures ∙ ap (λ z. key_of z c.args.a) c.deref.ensures.value in
    let kb : c.key_at-b.result ≡ key_of c.self.inside.keys.items c.args.b = c.key_at-b.ensures ∙ ap (λ z. key_of z c.args.b) c.deref-2.ensures.value in
    let na : c.index.result.now.cw ≡ key_of c.self.inside.keys.items (cw_at c.self.inside.ends c.self.inside.keys.items c.args.a) =
    ap (λ (z : End). z.cw) (read_end c.self.inside.ends c.key_at-a.result c.index.result.now c.index.ensures ∙ ap (end_in c.self.inside.ends) ka ∙ end_is c.self.inside.ends (2 * length c.self.inside.keys.items) (key_of c.self.inside.keys.items) (λ d. key_of c.self.inside.keys.items (twin d)) (cw_at c.self.inside.ends c.self.inside.keys.items) (ccw_at c.self.inside.ends c.self.inside.keys.items) c.self.invariant.linked c.args.a la) in
    let nb : c.index-2.result.now.cw ≡ key_of c.self.inside.keys.items (cw_at c.self.inside.ends c.self.inside.keys.items c.args.b) =
    ap (λ (z : End). z.cw) (read_end c.self.inside.ends c.key_at-b.result c.index-2.result.now c.index-2.ensures ∙ ap (end_in c.self.inside.ends) kb ∙ end_is c.self.inside.ends (2 * length c.self.inside.keys.items) (key_of c.self.inside.keys.items) (λ d. key_of c.self.inside.keys.items (twin d)) (cw_at c.self.inside.ends c.self.inside.keys.items) (ccw_at c.self.inside.ends c.self.inside.keys.items) c.self.invariant.linked c.args.b lb) in (
      subst (λ z. IsSome (get c.self.inside.ends z)) (sym kb) (end_there c.self.inside.ends c.self.inside.keys.items c.self.inside.first.items 0 0 c.self.invariant c.args.b lb),
      subst (λ z. IsSome (get c.self.inside.ends z)) (sym nb) (end_there c.self.inside.ends c.self.inside.keys.items c.self.inside.first.items 0 0 c.self.invariant (cw_at c.self.inside.ends c.self.inside.keys.items c.args.b) (c.self.invariant.linked.cw_in c.args.b lb)),
    )

pub push_reserved-requires : goal.push_reserved-requires
push_reserved-requires c =
    let m : c.len-edge.result ≡ length c.self.inside.keys.items = search rules in
    omega (arith, c.len-edge.ensures, c.requires.room.edges, length-cw c.self.inside.ends c.self.inside.keys.items c.self.inside.first.items c.self.inside.keys.cap c.self.inside.first.cap, ap (λ (z : LinkTables). length z.cw) c.self.view_is, ap (λ (z : LinkTables). z.room_edges) c.self.view_is)

pub invariant_of-self : goal.invariant_of-self
invariant_of-self c =
    let la : c.args.a < 2 * length c.self.inside.keys.items = asked_cw c.self.inside.ends c.self.inside.keys.items c.self.inside.first.items c.self.inside.keys.cap c.self.inside.first.cap c.args.self.now c.self.view_is c.args.a c.requires.there.0 in
    let lb : c.args.b < 2 * length c.self.inside.keys.items = asked_cw c.self.inside.ends c.self.inside.keys.items c.self.inside.first.items c.self.inside.keys.cap c.self.inside.first.cap c.args.self.now c.self.view_is c.args.b c.requires.there.1 in
    let ka : c.key_at-a.result ≡ key_of c.self.inside.keys.items c.args.a = c.key_at-a.ensures ∙ ap (λ z. key_of z c.args.a) c.deref.ensures.value in
    let kb : c.key_at-b.result ≡ key_of c.self.inside.keys.items c.args.b = c.key_at-b.ensures ∙ ap (λ z. key_of z c.args.b) c.deref-2.ensures.value in
    let na : c.index.result.now.cw ≡ key_of c.self.inside.keys.items (cw_at c.self.inside.ends c.self.inside.keys.items c.args.a) =
    ap (λ (z : End). z.cw) (read_end c.self.inside.ends c.key_at-a.result c.index.result.now c.index.ensures ∙ ap (end_in c.self.inside.ends) ka ∙ end_is c.self.inside.ends (2 * length c.self.inside.keys.items) (key_of c.self.inside.keys.items) (λ d. key_of c.self.inside.keys.items (twin d)) (cw_at c.self.inside.ends c.self.inside.keys.items) (ccw_at c.self.inside.ends c.self.inside.keys.items) c.self.invariant.linked c.args.a la) in
    let nb : c.index-2.result.now.cw ≡ key_of c.self.inside.keys.items (cw_at c.self.inside.ends c.self.inside.keys.items c.args.b) =
    ap (λ (z : End). z.cw) (read_end c.self.inside.ends c.key_at-b.result c.index-2.result.now c.index-2.ensures ∙ ap (end_in c.self.inside.ends) kb ∙ end_is c.self.inside.ends (2 * length c.self.inside.keys.items) (key_of c.self.inside.keys.items) (λ d. key_of c.self.inside.keys.items (twin d)) (cw_at c.self.inside.ends c.self.inside.keys.items) (ccw_at c.self.inside.ends c.self.inside.keys.items) c.self.invariant.linked c.args.b lb) in
    let m : c.len-edge.result ≡ length c.self.inside.keys.items = search rules in
    let v : InsertsEnds c.self.inside.ends c.insert_ends-tail.new.ends (length c.self.inside.keys.items) (key_of c.self.inside.keys.items c.args.a) (key_of c.self.inside.keys.items (cw_at c.self.inside.ends c.self.inside.keys.items c.args.a)) (key_of c.self.inside.keys.items c.args.b) (key_of c.self.inside.keys.items (cw_at c.self.inside.ends c.self.inside.keys.items c.args.b)) c.insert_ends-tail.result.0 c.insert_ends-tail.result.1 =
    subst (λ z. InsertsEnds c.self.inside.ends c.insert_ends-tail.new.ends z (key_of c.self.inside.keys.items c.args.a) (key_of c.self.inside.keys.items (cw_at c.self.inside.ends c.self.inside.keys.items c.args.a)) (key_of c.self.inside.keys.items c.args.b) (key_of c.self.inside.keys.items (cw_at c.self.inside.ends c.self.inside.keys.items c.args.b)) c.insert_ends-tail.result.0 c.insert_ends-tail.result.1) m
    (subst (λ z. InsertsEnds c.self.inside.ends c.insert_ends-tail.new.ends c.len-edge.result z (key_of c.self.inside.keys.items (cw_at c.self.inside.ends c.self.inside.keys.items c.args.a)) (key_of c.self.inside.keys.items c.args.b) (key_of c.self.inside.keys.items (cw_at c.self.inside.ends c.self.inside.keys.items c.args.b)) c.insert_ends-tail.result.0 c.insert_ends-tail.result.1) ka
    (subst (λ z. InsertsEnds c.self.inside.ends c.insert_ends-tail.new.ends c.len-edge.result c.key_at-a.result z (key_of c.self.inside.keys.items c.args.b) (key_of c.self.inside.keys.items (cw_at c.self.inside.ends c.self.inside.keys.items c.args.b)) c.insert_ends-tail.result.0 c.insert_ends-tail.result.1) na
    (subst (λ z. InsertsEnds c.self.inside.ends c.insert_ends-tail.new.ends c.len-edge.result c.key_at-a.result c.index.result.now.cw z (key_of c.self.inside.keys.items (cw_at c.self.inside.ends c.self.inside.keys.items c.args.b)) c.insert_ends-tail.result.0 c.insert_ends-tail.result.1) kb
    (subst (λ z. InsertsEnds c.self.inside.ends c.insert_ends-tail.new.ends c.len-edge.result c.key_at-a.result c.index.result.now.cw c.key_at-b.result z c.insert_ends-tail.result.0 c.insert_ends-tail.result.1) nb c.insert_ends-tail.ensures.inserts)))) in
    let keys : c.push_reserved.new.self.items ≡ keys_after c.self.inside.ends c.insert_ends-tail.new.ends c.self.inside.keys.items c.self.inside.first.items c.args.a c.args.b c.insert_ends-tail.result.0 c.insert_ends-tail.result.1 c.self.invariant la lb c.requires.apart v = c.push_reserved.ensures.items in
    let few : suc (length c.self.inside.keys.items) < 2 ^ 30 = omega (arith, c.requires.few, length-cw c.self.inside.ends c.self.inside.keys.items c.self.inside.first.items c.self.inside.keys.cap c.self.inside.first.cap, ap (λ (z : LinkTables). length z.cw) c.self.view_is) in
    subst (λ (z : List (ℕ × ℕ)). AreLinks c.insert_ends-tail.new.ends z c.self.inside.first.items) (sym keys) (links_after c.self.inside.ends c.insert_ends-tail.new.ends c.self.inside.keys.items c.self.inside.first.items c.args.a c.args.b c.insert_ends-tail.result.0 c.insert_ends-tail.result.1 c.self.invariant la lb c.requires.apart v few)

pub returns-clause-cw : goal.returns-clause-cw
returns-clause-cw c =
    let la : c.args.a < 2 * length c.self.inside.keys.items = asked_cw c.self.inside.ends c.self.inside.keys.items c.self.inside.first.items c.self.inside.keys.cap c.self.inside.first.cap c.args.self.now c.self.view_is c.args.a c.requires.there.0 in
    let lb : c.args.b < 2 * length c.self.inside.keys.items = asked_cw c.self.inside.ends c.self.inside.keys.items c.self.inside.first.items c.self.inside.keys.cap c.self.inside.first.cap c.args.self.now c.self.view_is c.args.b c.requires.there.1 in
    let ka : c.key_at-a.result ≡ key_of c.self.inside.keys.items c.args.a = c.key_at-a.ensures ∙ ap (λ z. key_of z c.args.a) c.deref.ensures.value in
    let kb : c.key_at-b.result ≡ key_of c.self.inside.keys.items c.args.b = c.key_at-b.ensures ∙ ap (λ z. key_of z c.args.b) c.deref-2.ensures.value in
    let na : c.index.result.now.cw ≡ key_of c.self.inside.keys.items (cw_at c.self.inside.ends c.self.inside.keys.items c.args.a) =
    ap (λ (z : End). z.cw) (read_end c.self.inside.ends c.key_at-a.result c.index.result.now c.index.ensures ∙ ap (end_in c.self.inside.ends) ka ∙ end_is c.self.inside.ends (2 * length c.self.inside.keys.items) (key_of c.self.inside.keys.items) (λ d. key_of c.self.inside.keys.items (twin d)) (cw_at c.self.inside.ends c.self.inside.keys.items) (ccw_at c.self.inside.ends c.self.inside.keys.items) c.self.invariant.linked c.args.a la) in
    let nb : c.index-2.result.now.cw ≡ key_of c.self.inside.keys.items (cw_at c.self.inside.ends c.self.inside.keys.items c.args.b) =
    ap (λ (z : End). z.cw) (read_end c.self.inside.ends c.key_at-b.result c.index-2.result.now c.index-2.ensures ∙ ap (end_in c.self.inside.ends) kb ∙ end_is c.self.inside.ends (2 * length c.self.inside.keys.items) (key_of c.self.inside.keys.items) (λ d. key_of c.self.inside.keys.items (twin d)) (cw_at c.self.inside.ends c.self.inside.keys.items) (ccw_at c.self.inside.ends c.self.inside.keys.items) c.self.invariant.linked c.args.b lb) in
    let m : c.len-edge.result ≡ length c.self.inside.keys.items = search rules in
    let v : InsertsEnds c.self.inside.ends c.insert_ends-tail.new.ends (length c.self.inside.keys.items) (key_of c.self.inside.keys.items c.args.a) (key_of c.self.inside.keys.items (cw_at c.self.inside.ends c.self.inside.keys.items c.args.a)) (key_of c.self.inside.keys.items c.args.b) (key_of c.self.inside.keys.items (cw_at c.self.inside.ends c.self.inside.keys.items c.args.b)) c.insert_ends-tail.result.0 c.insert_ends-tail.result.1 =
    subst (λ z. InsertsEnds c.self.inside.ends c.insert_ends-tail.new.ends z (key_of c.self.inside.keys.items c.args.a) (key_of c.self.inside.keys.items (cw_at c.self.inside.ends c.self.inside.keys.items c.args.a)) (key_of c.self.inside.keys.items c.args.b) (key_of c.self.inside.keys.items (cw_at c.self.inside.ends c.self.inside.keys.items c.args.b)) c.insert_ends-tail.result.0 c.insert_ends-tail.result.1) m
    (subst (λ z. InsertsEnds c.self.inside.ends c.insert_ends-tail.new.ends c.len-edge.result z (key_of c.self.inside.keys.items (cw_at c.self.inside.ends c.self.inside.keys.items c.args.a)) (key_of c.self.inside.keys.items c.args.b) (key_of c.self.inside.keys.items (cw_at c.self.inside.ends c.self.inside.keys.items c.args.b)) c.insert_ends-tail.result.0 c.insert_ends-tail.result.1) ka
    (subst (λ z. InsertsEnds c.self.inside.ends c.insert_ends-tail.new.ends c.len-edge.result c.key_at-a.result z (key_of c.self.inside.keys.items c.args.b) (key_of c.self.inside.keys.items (cw_at c.self.inside.ends c.self.inside.keys.items c.args.b)) c.insert_ends-tail.result.0 c.insert_ends-tail.result.1) na
    (subst (λ z. InsertsEnds c.self.inside.ends c.insert_ends-tail.new.ends c.len-edge.result c.key_at-a.result c.index.result.now.cw z (key_of c.self.inside.keys.items (cw_at c.self.inside.ends c.self.inside.keys.items c.args.b)) c.insert_ends-tail.result.0 c.insert_ends-tail.result.1) kb
    (subst (λ z. InsertsEnds c.self.inside.ends c.insert_ends-tail.new.ends c.len-edge.result c.key_at-a.result c.index.result.now.cw c.key_at-b.result z c.insert_ends-tail.result.0 c.insert_ends-tail.result.1) nb c.insert_ends-tail.ensures.inserts)))) in
    let keys : c.push_reserved.new.self.items ≡ keys_after c.self.inside.ends c.insert_ends-tail.new.ends c.self.inside.keys.items c.self.inside.first.items c.args.a c.args.b c.insert_ends-tail.result.0 c.insert_ends-tail.result.1 c.self.invariant la lb c.requires.apart v = c.push_reserved.ensures.items in
    ap (λ (z : List (ℕ × ℕ)). map (cw_at c.insert_ends-tail.new.ends z) (range_with_len 0 (2 * length z))) keys
    ∙ cw_after c.self.inside.ends c.insert_ends-tail.new.ends c.self.inside.keys.items c.self.inside.first.items c.args.a c.args.b c.insert_ends-tail.result.0 c.insert_ends-tail.result.1 c.self.invariant la lb c.requires.apart v c.self.inside.keys.cap c.self.inside.first.cap 0 0 ∙ ap (λ (z : LinkTables). put_entry (put_entry z.cw c.args.a) c.args.b) c.self.view_is

pub returns-clause-ccw : goal.returns-clause-ccw
returns-clause-ccw c =
    let la : c.args.a < 2 * length c.self.inside.keys.items = asked_cw c.self.inside.ends c.self.inside.keys.items c.self.inside.first.items c.self.inside.keys.cap c.self.inside.first.cap c.args.self.now c.self.view_is c.args.a c.requires.there.0 in
    let lb : c.args.b < 2 * length c.self.inside.keys.items = asked_cw c.self.inside.ends c.self.inside.keys.items c.self.inside.first.items c.self.inside.keys.cap c.self.inside.first.cap c.args.self.now c.self.view_is c.args.b c.requires.there.1 in
    let ka : c.key_at-a.result ≡ key_of c.self.inside.keys.items c.args.a = c.key_at-a.ensures ∙ ap (λ z. key_of z c.args.a) c.deref.ensures.value in
    let kb : c.key_at-b.result ≡ key_of c.self.inside.keys.items c.args.b = c.key_at-b.ensures ∙ ap (λ z. key_of z c.args.b) c.deref-2.ensures.value in
    let na : c.index.result.now.cw ≡ key_of c.self.inside.keys.items (cw_at c.self.inside.ends c.self.inside.keys.items c.args.a) =
    ap (λ (z : End). z.cw) (read_end c.self.inside.ends c.key_at-a.result c.index.result.now c.index.ensures ∙ ap (end_in c.self.inside.ends) ka ∙ end_is c.self.inside.ends (2 * length c.self.inside.keys.items) (key_of c.self.inside.keys.items) (λ d. key_of c.self.inside.keys.items (twin d)) (cw_at c.self.inside.ends c.self.inside.keys.items) (ccw_at c.self.inside.ends c.self.inside.keys.items) c.self.invariant.linked c.args.a la) in
    let nb : c.index-2.result.now.cw ≡ key_of c.self.inside.keys.items (cw_at c.self.inside.ends c.self.inside.keys.items c.args.b) =
    ap (λ (z : End). z.cw) (read_end c.self.inside.ends c.key_at-b.result c.index-2.result.now c.index-2.ensures ∙ ap (end_in c.self.inside.ends) kb ∙ end_is c.self.inside.ends (2 * length c.self.inside.keys.items) (key_of c.self.inside.keys.items) (λ d. key_of c.self.inside.keys.items (twin d)) (cw_at c.self.inside.ends c.self.inside.keys.items) (ccw_at c.self.inside.ends c.self.inside.keys.items) c.self.invariant.linked c.args.b lb) in
    let m : c.len-edge.result ≡ length c.self.inside.keys.items = search rules in
    let v : InsertsEnds c.self.inside.ends c.insert_ends-tail.new.ends (length c.self.inside.keys.items) (key_of c.self.inside.keys.items c.args.a) (key_of c.self.inside.keys.items (cw_at c.self.inside.ends c.self.inside.keys.items c.args.a)) (key_of c.self.inside.keys.items c.args.b) (key_of c.self.inside.keys.items (cw_at c.self.inside.ends c.self.inside.keys.items c.args.b)) c.insert_ends-tail.result.0 c.insert_ends-tail.result.1 =
    subst (λ z. InsertsEnds c.self.inside.ends c.insert_ends-tail.new.ends z (key_of c.self.inside.keys.items c.args.a) (key_of c.self.inside.keys.items (cw_at c.self.inside.ends c.self.inside.keys.items c.args.a)) (key_of c.self.inside.keys.items c.args.b) (key_of c.self.inside.keys.items (cw_at c.self.inside.ends c.self.inside.keys.items c.args.b)) c.insert_ends-tail.result.0 c.insert_ends-tail.result.1) m
    (subst (λ z. InsertsEnds c.self.inside.ends c.insert_ends-tail.new.ends c.len-edge.result z (key_of c.self.inside.keys.items (cw_at c.self.inside.ends c.self.inside.keys.items c.args.a)) (key_of c.self.inside.keys.items c.args.b) (key_of c.self.inside.keys.items (cw_at c.self.inside.ends c.self.inside.keys.items c.args.b)) c.insert_ends-tail.result.0 c.insert_ends-tail.result.1) ka
    (subst (λ z. InsertsEnds c.self.inside.ends c.insert_ends-tail.new.ends c.len-edge.result c.key_at-a.result z (key_of c.self.inside.keys.items c.args.b) (key_of c.self.inside.keys.items (cw_at c.self.inside.ends c.self.inside.keys.items c.args.b)) c.insert_ends-tail.result.0 c.insert_ends-tail.result.1) na
    (subst (λ z. InsertsEnds c.self.inside.ends c.insert_ends-tail.new.ends c.len-edge.result c.key_at-a.result c.index.result.now.cw z (key_of c.self.inside.keys.items (cw_at c.self.inside.ends c.self.inside.keys.items c.args.b)) c.insert_ends-tail.result.0 c.insert_ends-tail.result.1) kb
    (subst (λ z. InsertsEnds c.self.inside.ends c.insert_ends-tail.new.ends c.len-edge.result c.key_at-a.result c.index.result.now.cw c.key_at-b.result z c.insert_ends-tail.result.0 c.insert_ends-tail.result.1) nb c.insert_ends-tail.ensures.inserts)))) in
    let keys : c.push_reserved.new.self.items ≡ keys_after c.self.inside.ends c.insert_ends-tail.new.ends c.self.inside.keys.items c.self.inside.first.items c.args.a c.args.b c.insert_ends-tail.result.0 c.insert_ends-tail.result.1 c.self.invariant la lb c.requires.apart v = c.push_reserved.ensures.items in
    let ba : get_or (links_of c.self.inside.ends c.self.inside.keys.items c.self.inside.first.items c.self.inside.keys.cap c.self.inside.first.cap).ccw (get_or (links_of c.self.inside.ends c.self.inside.keys.items c.self.inside.first.items c.self.inside.keys.cap c.self.inside.first.cap).cw c.args.a 0) 0 ≡ c.args.a =
    ap (λ (z : LinkTables). get_or z.ccw (get_or z.cw c.args.a 0) 0) c.self.view_is ∙ c.requires.back_a in
    let bb : get_or (links_of c.self.inside.ends c.self.inside.keys.items c.self.inside.first.items c.self.inside.keys.cap c.self.inside.first.cap).ccw (get_or (links_of c.self.inside.ends c.self.inside.keys.items c.self.inside.first.items c.self.inside.keys.cap c.self.inside.first.cap).cw c.args.b 0) 0 ≡ c.args.b =
    ap (λ (z : LinkTables). get_or z.ccw (get_or z.cw c.args.b 0) 0) c.self.view_is ∙ c.requires.back_b in
    ap (λ (z : List (ℕ × ℕ)). map (ccw_at c.insert_ends-tail.new.ends z) (range_with_len 0 (2 * length z))) keys
    ∙ ccw_after c.self.inside.ends c.insert_ends-tail.new.ends c.self.inside.keys.items c.self.inside.first.items c.args.a c.args.b c.insert_ends-tail.result.0 c.insert_ends-tail.result.1 c.self.invariant la lb c.requires.apart v c.self.inside.keys.cap c.self.inside.first.cap 0 0 ba bb ∙ ap (λ (z : LinkTables). put_entry (put_entry z.ccw (get_or z.cw c.args.a 0)) (get_or z.cw c.args.b 0)) c.self.view_is

pub returns-clause-first : goal.returns-clause-first
returns-clause-first c =
    let la : c.args.a < 2 * length c.self.inside.keys.items = asked_cw c.self.inside.ends c.self.inside.keys.items c.self.inside.first.items c.self.inside.keys.cap c.self.inside.first.cap c.args.self.now c.self.view_is c.args.a c.requires.there.0 in
    let lb : c.args.b < 2 * length c.self.inside.keys.items = asked_cw c.self.inside.ends c.self.inside.keys.items c.self.inside.first.items c.self.inside.keys.cap c.self.inside.first.cap c.args.self.now c.self.view_is c.args.b c.requires.there.1 in
    let ka : c.key_at-a.result ≡ key_of c.self.inside.keys.items c.args.a = c.key_at-a.ensures ∙ ap (λ z. key_of z c.args.a) c.deref.ensures.value in
    let kb : c.key_at-b.result ≡ key_of c.self.inside.keys.items c.args.b = c.key_at-b.ensures ∙ ap (λ z. key_of z c.args.b) c.deref-2.ensures.value in
    let na : c.index.result.now.cw ≡ key_of c.self.inside.keys.items (cw_at c.self.inside.ends c.self.inside.keys.items c.args.a) =
    ap (λ (z : End). z.cw) (read_end c.self.inside.ends c.key_at-a.result c.index.result.now c.index.ensures ∙ ap (end_in c.self.inside.ends) ka ∙ end_is c.self.inside.ends (2 * length c.self.inside.keys.items) (key_of c.self.inside.keys.items) (λ d. key_of c.self.inside.keys.items (twin d)) (cw_at c.self.inside.ends c.self.inside.keys.items) (ccw_at c.self.inside.ends c.self.inside.keys.items) c.self.invariant.linked c.args.a la) in
    let nb : c.index-2.result.now.cw ≡ key_of c.self.inside.keys.items (cw_at c.self.inside.ends c.self.inside.keys.items c.args.b) =
    ap (λ (z : End). z.cw) (read_end c.self.inside.ends c.key_at-b.result c.index-2.result.now c.index-2.ensures ∙ ap (end_in c.self.inside.ends) kb ∙ end_is c.self.inside.ends (2 * length c.self.inside.keys.items) (key_of c.self.inside.keys.items) (λ d. key_of c.self.inside.keys.items (twin d)) (cw_at c.self.inside.ends c.self.inside.keys.items) (ccw_at c.self.inside.ends c.self.inside.keys.items) c.self.invariant.linked c.args.b lb) in
    let m : c.len-edge.result ≡ length c.self.inside.keys.items = search rules in
    let v : InsertsEnds c.self.inside.ends c.insert_ends-tail.new.ends (length c.self.inside.keys.items) (key_of c.self.inside.keys.items c.args.a) (key_of c.self.inside.keys.items (cw_at c.self.inside.ends c.self.inside.keys.items c.args.a)) (key_of c.self.inside.keys.items c.args.b) (key_of c.self.inside.keys.items (cw_at c.self.inside.ends c.self.inside.keys.items c.args.b)) c.insert_ends-tail.result.0 c.insert_ends-tail.result.1 =
    subst (λ z. InsertsEnds c.self.inside.ends c.insert_ends-tail.new.ends z (key_of c.self.inside.keys.items c.args.a) (key_of c.self.inside.keys.items (cw_at c.self.inside.ends c.self.inside.keys.items c.args.a)) (key_of c.self.inside.keys.items c.args.b) (key_of c.self.inside.keys.items (cw_at c.self.inside.ends c.self.inside.keys.items c.args.b)) c.insert_ends-tail.result.0 c.insert_ends-tail.result.1) m
    (subst (λ z. InsertsEnds c.self.inside.ends c.insert_ends-tail.new.ends c.len-edge.result z (key_of c.self.inside.keys.items (cw_at c.self.inside.ends c.self.inside.keys.items c.args.a)) (key_of c.self.inside.keys.items c.args.b) (key_of c.self.inside.keys.items (cw_at c.self.inside.ends c.self.inside.keys.items c.args.b)) c.insert_ends-tail.result.0 c.insert_ends-tail.result.1) ka
    (subst (λ z. InsertsEnds c.self.inside.ends c.insert_ends-tail.new.ends c.len-edge.result c.key_at-a.result z (key_of c.self.inside.keys.items c.args.b) (key_of c.self.inside.keys.items (cw_at c.self.inside.ends c.self.inside.keys.items c.args.b)) c.insert_ends-tail.result.0 c.insert_ends-tail.result.1) na
    (subst (λ z. InsertsEnds c.self.inside.ends c.insert_ends-tail.new.ends c.len-edge.result c.key_at-a.result c.index.result.now.cw z (key_of c.self.inside.keys.items (cw_at c.self.inside.ends c.self.inside.keys.items c.args.b)) c.insert_ends-tail.result.0 c.insert_ends-tail.result.1) kb
    (subst (λ z. InsertsEnds c.self.inside.ends c.insert_ends-tail.new.ends c.len-edge.result c.key_at-a.result c.index.result.now.cw c.key_at-b.result z c.insert_ends-tail.result.0 c.insert_ends-tail.result.1) nb c.insert_ends-tail.ensures.inserts)))) in
    let keys : c.push_reserved.new.self.items ≡ keys_after c.self.inside.ends c.insert_ends-tail.new.ends c.self.inside.keys.items c.self.inside.first.items c.args.a c.args.b c.insert_ends-tail.result.0 c.insert_ends-tail.result.1 c.self.invariant la lb c.requires.apart v = c.push_reserved.ensures.items in
    first_same c.self.inside.ends c.insert_ends-tail.new.ends c.self.inside.keys.items c.self.inside.first.items c.args.a c.args.b c.insert_ends-tail.result.0 c.insert_ends-tail.result.1 c.self.invariant la lb c.requires.apart v ∙ ap (λ (z : LinkTables). z.first) c.self.view_is
