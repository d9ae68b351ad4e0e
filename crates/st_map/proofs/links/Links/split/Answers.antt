use Rattle.std.proofs.Common.{rules, ◌≡◌, ℕ, suc, ◌+◌, ◌*◌, ◌<◌, ◌^◌, ◌++◌, ◌∷◌, [], List, IsSome, Option, map, set, length, get_or, sym, ap, ◌∙◌, subst, arith}
use Rattle.std.specs.List.{range_with_len}
use Rattle.std.proofs.lemmas.List.{get_or_default}
use Rattle.slab.specs.Slab.{get}
use Rattle.st_ids.specs.Ends.{twin}
use Rattle.st_map.specs.Links.{AreLinks, LinkTables, SplitsEnds, ccw_at, cw_at, first_at, key_of, links_of}
use Rattle.st_map.specs.Tables.{AreLinksSplit, renumbered}
use Rattle.st_map.proofs.LinkLemmas.{asked_cw, end_there, key_one, length-cw}
use Rattle.st_map.proofs.LinkLoops.{key_head, key_tail}
use Rattle.st_map.proofs.LinkSplit.{ccw_after, cw_after, first_after, first_after_is, keys_after, links_after}
use Rattle.st_map.proofs.links.Links.split.Goals as goal

pub index-requires : goal.index-requires
index-requires c =
    let q = c.self.view_is in
    let le2 : 2 * c.args.e + 1 < 2 * length c.self.inside.keys.items = asked_cw c.self.inside.ends c.self.inside.keys.items c.self.inside.first.items c.self.inside.keys.cap c.self.inside.first.cap c.args.self.now c.self.view_is (2 * c.args.e + 1) c.requires.edge in
    let le : c.args.e < length c.self.inside.keys.items = omega arith in
    let m : c.len-edge.result ≡ length c.self.inside.keys.items = search rules in
    omega (arith, c.len-edge.ensures)

pub index_mut-requires : goal.index_mut-requires
index_mut-requires c =
    let q = c.self.view_is in
    let le2 : 2 * c.args.e + 1 < 2 * length c.self.inside.keys.items = asked_cw c.self.inside.ends c.self.inside.keys.items c.self.inside.first.items c.self.inside.keys.cap c.self.inside.first.cap c.args.self.now c.self.view_is (2 * c.args.e + 1) c.requires.edge in
    let le : c.args.e < length c.self.inside.keys.items = omega arith in
    let pair : c.index.result.now ≡ get_or c.self.inside.keys.items c.args.e (0, 0) = c.index.ensures ∙ get_or_default c.self.inside.keys.items c.args.e c.index.result.now (0, 0) le in
    let m : c.len-edge.result ≡ length c.self.inside.keys.items = search rules in
    omega (arith, c.len-edge.ensures)

pub split_ends-own-requires-clause-tail : goal.split_ends-own-requires-clause-tail
split_ends-own-requires-clause-tail c =
    let q = c.self.view_is in
    let le2 : 2 * c.args.e + 1 < 2 * length c.self.inside.keys.items = asked_cw c.self.inside.ends c.self.inside.keys.items c.self.inside.first.items c.self.inside.keys.cap c.self.inside.first.cap c.args.self.now c.self.view_is (2 * c.args.e + 1) c.requires.edge in
    let le : c.args.e < length c.self.inside.keys.items = omega arith in
    let pair : c.index.result.now ≡ get_or c.self.inside.keys.items c.args.e (0, 0) = c.index.ensures ∙ get_or_default c.self.inside.keys.items c.args.e c.index.result.now (0, 0) le in
    let m : c.len-edge.result ≡ length c.self.inside.keys.items = search rules in
    subst (λ z. IsSome (get c.self.inside.ends z)) (key_tail c.self.inside.keys.items c.args.e ∙ ap (λ (p : ℕ × ℕ). p.0) (sym pair)) (end_there c.self.inside.ends c.self.inside.keys.items c.self.inside.first.items 0 0 c.self.invariant (2 * c.args.e) (omega arith))

pub split_ends-own-requires-clause-head : goal.split_ends-own-requires-clause-head
split_ends-own-requires-clause-head c =
    let q = c.self.view_is in
    let le2 : 2 * c.args.e + 1 < 2 * length c.self.inside.keys.items = asked_cw c.self.inside.ends c.self.inside.keys.items c.self.inside.first.items c.self.inside.keys.cap c.self.inside.first.cap c.args.self.now c.self.view_is (2 * c.args.e + 1) c.requires.edge in
    let le : c.args.e < length c.self.inside.keys.items = omega arith in
    let pair : c.index.result.now ≡ get_or c.self.inside.keys.items c.args.e (0, 0) = c.index.ensures ∙ get_or_default c.self.inside.keys.items c.args.e c.index.result.now (0, 0) le in
    let m : c.len-edge.result ≡ length c.self.inside.keys.items = search rules in
    subst (λ z. IsSome (get c.self.inside.ends z)) (key_head c.self.inside.keys.items c.args.e ∙ ap (λ (p : ℕ × ℕ). p.1) (sym pair)) (end_there c.self.inside.ends c.self.inside.keys.items c.self.inside.first.items 0 0 c.self.invariant (2 * c.args.e + 1) le2)

pub split_ends-own-requires-clause-apart : goal.split_ends-own-requires-clause-apart
split_ends-own-requires-clause-apart c =
    let q = c.self.view_is in
    let le2 : 2 * c.args.e + 1 < 2 * length c.self.inside.keys.items = asked_cw c.self.inside.ends c.self.inside.keys.items c.self.inside.first.items c.self.inside.keys.cap c.self.inside.first.cap c.args.self.now c.self.view_is (2 * c.args.e + 1) c.requires.edge in
    let le : c.args.e < length c.self.inside.keys.items = omega arith in
    let pair : c.index.result.now ≡ get_or c.self.inside.keys.items c.args.e (0, 0) = c.index.ensures ∙ get_or_default c.self.inside.keys.items c.args.e c.index.result.now (0, 0) le in
    let m : c.len-edge.result ≡ length c.self.inside.keys.items = search rules in
    λ same.
    let one : 2 * c.args.e ≡ 2 * c.args.e + 1 = key_one c.self.inside.ends (2 * length c.self.inside.keys.items) (key_of c.self.inside.keys.items) (λ d. key_of c.self.inside.keys.items (twin d)) (cw_at c.self.inside.ends c.self.inside.keys.items) (ccw_at c.self.inside.ends c.self.inside.keys.items) c.self.invariant.linked (2 * c.args.e) (2 * c.args.e + 1) (omega arith) le2
    (key_tail c.self.inside.keys.items c.args.e ∙ ap (λ (p : ℕ × ℕ). p.0) (sym pair) ∙ same ∙ ap (λ (p : ℕ × ℕ). p.1) pair ∙ sym (key_head c.self.inside.keys.items c.args.e)) in
    omega arith

pub split_ends-own-requires-clause-room : goal.split_ends-own-requires-clause-room
split_ends-own-requires-clause-room c =
    omega (arith, c.self.invariant.count, c.requires.room.ends, length-cw c.self.inside.ends c.self.inside.keys.items c.self.inside.first.items c.self.inside.keys.cap c.self.inside.first.cap, ap (λ (z : LinkTables). length z.cw) c.self.view_is, ap (λ (z : LinkTables). z.room_ends) c.self.view_is)

pub push_reserved-requires : goal.push_reserved-requires
push_reserved-requires c =
    let q = c.self.view_is in
    let le2 : 2 * c.args.e + 1 < 2 * length c.self.inside.keys.items = asked_cw c.self.inside.ends c.self.inside.keys.items c.self.inside.first.items c.self.inside.keys.cap c.self.inside.first.cap c.args.self.now c.self.view_is (2 * c.args.e + 1) c.requires.edge in
    let le : c.args.e < length c.self.inside.keys.items = omega arith in
    let pair : c.index.result.now ≡ get_or c.self.inside.keys.items c.args.e (0, 0) = c.index.ensures ∙ get_or_default c.self.inside.keys.items c.args.e c.index.result.now (0, 0) le in
    let m : c.len-edge.result ≡ length c.self.inside.keys.items = search rules in
    omega (arith, c.len-edge.ensures, c.requires.room.edges, length-cw c.self.inside.ends c.self.inside.keys.items c.self.inside.first.items c.self.inside.keys.cap c.self.inside.first.cap, ap (λ (z : LinkTables). length z.cw) c.self.view_is, ap (λ (z : LinkTables). z.room_edges) c.self.view_is)

pub invariant_of-self : goal.invariant_of-self
invariant_of-self c =
    let q = c.self.view_is in
    let le2 : 2 * c.args.e + 1 < 2 * length c.self.inside.keys.items = asked_cw c.self.inside.ends c.self.inside.keys.items c.self.inside.first.items c.self.inside.keys.cap c.self.inside.first.cap c.args.self.now c.self.view_is (2 * c.args.e + 1) c.requires.edge in
    let le : c.args.e < length c.self.inside.keys.items = omega arith in
    let pair : c.index.result.now ≡ get_or c.self.inside.keys.items c.args.e (0, 0) = c.index.ensures ∙ get_or_default c.self.inside.keys.items c.args.e c.index.result.now (0, 0) le in
    let m : c.len-edge.result ≡ length c.self.inside.keys.items = search rules in
    let splits : SplitsEnds c.self.inside.ends c.split_ends-own.new.ends c.args.e (length c.self.inside.keys.items) (get_or c.self.inside.keys.items c.args.e (0, 0)).0 (get_or c.self.inside.keys.items c.args.e (0, 0)).1 c.split_ends-own.result.0 c.split_ends-own.result.1 =
    subst (λ (p : ℕ × ℕ). SplitsEnds c.self.inside.ends c.split_ends-own.new.ends c.args.e (length c.self.inside.keys.items) p.0 p.1 c.split_ends-own.result.0 c.split_ends-own.result.1) pair
    (subst (λ z. SplitsEnds c.self.inside.ends c.split_ends-own.new.ends c.args.e z c.index.result.now.0 c.index.result.now.1 c.split_ends-own.result.0 c.split_ends-own.result.1) m c.split_ends-own.ensures.splits) in
    let keys : c.push_reserved.new.self.items ≡ keys_after c.self.inside.ends c.split_ends-own.new.ends c.self.inside.keys.items c.self.inside.first.items c.args.e c.split_ends-own.result.0 c.split_ends-own.result.1 le c.self.invariant splits =
    c.push_reserved.ensures.items ∙ ap (λ (p : ℕ × ℕ). set c.self.inside.keys.items c.args.e (p.0, c.split_ends-own.result.0) ++ (c.split_ends-own.result.1, p.1) ∷ []) pair in
    let first : c.push_reserved-2.new.self.items ≡ first_after c.self.inside.ends c.split_ends-own.new.ends c.self.inside.keys.items c.self.inside.first.items c.args.e c.split_ends-own.result.0 c.split_ends-own.result.1 le c.self.invariant splits = c.push_reserved-2.ensures.items in
    let few : suc (length c.self.inside.keys.items) < 2 ^ 30 = omega (arith, c.requires.few, length-cw c.self.inside.ends c.self.inside.keys.items c.self.inside.first.items c.self.inside.keys.cap c.self.inside.first.cap, ap (λ (z : LinkTables). length z.cw) c.self.view_is) in
    subst (λ (z : List (ℕ × ℕ)). AreLinks c.split_ends-own.new.ends z c.push_reserved-2.new.self.items) (sym keys)
    (subst (λ (z : List (Option ℕ)). AreLinks c.split_ends-own.new.ends (keys_after c.self.inside.ends c.split_ends-own.new.ends c.self.inside.keys.items c.self.inside.first.items c.args.e c.split_ends-own.result.0 c.split_ends-own.result.1 le c.self.invariant splits) z) (sym first) (links_after c.self.inside.ends c.split_ends-own.new.ends c.self.inside.keys.items c.self.inside.first.items c.args.e c.split_ends-own.result.0 c.split_ends-own.result.1 le c.self.invariant splits few))

pub returns-clause-cw : goal.returns-clause-cw
returns-clause-cw c =
    let q = c.self.view_is in
    let le2 : 2 * c.args.e + 1 < 2 * length c.self.inside.keys.items = asked_cw c.self.inside.ends c.self.inside.keys.items c.self.inside.first.items c.self.inside.keys.cap c.self.inside.first.cap c.args.self.now c.self.view_is (2 * c.args.e + 1) c.requires.edge in
    let le : c.args.e < length c.self.inside.keys.items = omega arith in
    let pair : c.index.result.now ≡ get_or c.self.inside.keys.items c.args.e (0, 0) = c.index.ensures ∙ get_or_default c.self.inside.keys.items c.args.e c.index.result.now (0, 0) le in
    let m : c.len-edge.result ≡ length c.self.inside.keys.items = search rules in
    let splits : SplitsEnds c.self.inside.ends c.split_ends-own.new.ends c.args.e (length c.self.inside.keys.items) (get_or c.self.inside.keys.items c.args.e (0, 0)).0 (get_or c.self.inside.keys.items c.args.e (0, 0)).1 c.split_ends-own.result.0 c.split_ends-own.result.1 =
    subst (λ (p : ℕ × ℕ). SplitsEnds c.self.inside.ends c.split_ends-own.new.ends c.args.e (length c.self.inside.keys.items) p.0 p.1 c.split_ends-own.result.0 c.split_ends-own.result.1) pair
    (subst (λ z. SplitsEnds c.self.inside.ends c.split_ends-own.new.ends c.args.e z c.index.result.now.0 c.index.result.now.1 c.split_ends-own.result.0 c.split_ends-own.result.1) m c.split_ends-own.ensures.splits) in
    let keys : c.push_reserved.new.self.items ≡ keys_after c.self.inside.ends c.split_ends-own.new.ends c.self.inside.keys.items c.self.inside.first.items c.args.e c.split_ends-own.result.0 c.split_ends-own.result.1 le c.self.invariant splits =
    c.push_reserved.ensures.items ∙ ap (λ (p : ℕ × ℕ). set c.self.inside.keys.items c.args.e (p.0, c.split_ends-own.result.0) ++ (c.split_ends-own.result.1, p.1) ∷ []) pair in
    let first : c.push_reserved-2.new.self.items ≡ first_after c.self.inside.ends c.split_ends-own.new.ends c.self.inside.keys.items c.self.inside.first.items c.args.e c.split_ends-own.result.0 c.split_ends-own.result.1 le c.self.invariant splits = c.push_reserved-2.ensures.items in
    subst (λ (z : LinkTables). AreLinksSplit z.cw (2 * c.args.e + 1) (map (cw_at c.split_ends-own.new.ends c.push_reserved.new.self.items) (range_with_len 0 (2 * length c.push_reserved.new.self.items)))) q
    (subst (λ (z : List (ℕ × ℕ)). AreLinksSplit (links_of c.self.inside.ends c.self.inside.keys.items c.self.inside.first.items c.self.inside.keys.cap c.self.inside.first.cap).cw (2 * c.args.e + 1) (map (cw_at c.split_ends-own.new.ends z) (range_with_len 0 (2 * length z)))) (sym keys)
    (cw_after c.self.inside.ends c.split_ends-own.new.ends c.self.inside.keys.items c.self.inside.first.items c.args.e c.split_ends-own.result.0 c.split_ends-own.result.1 le c.self.invariant splits c.self.inside.keys.cap c.self.inside.first.cap 0 0))

pub returns-clause-ccw : goal.returns-clause-ccw
returns-clause-ccw c =
    let q = c.self.view_is in
    let le2 : 2 * c.args.e + 1 < 2 * length c.self.inside.keys.items = asked_cw c.self.inside.ends c.self.inside.keys.items c.self.inside.first.items c.self.inside.keys.cap c.self.inside.first.cap c.args.self.now c.self.view_is (2 * c.args.e + 1) c.requires.edge in
    let le : c.args.e < length c.self.inside.keys.items = omega arith in
    let pair : c.index.result.now ≡ get_or c.self.inside.keys.items c.args.e (0, 0) = c.index.ensures ∙ get_or_default c.self.inside.keys.items c.args.e c.index.result.now (0, 0) le in
    let m : c.len-edge.result ≡ length c.self.inside.keys.items = search rules in
    let splits : SplitsEnds c.self.inside.ends c.split_ends-own.new.ends c.args.e (length c.self.inside.keys.items) (get_or c.self.inside.keys.items c.args.e (0, 0)).0 (get_or c.self.inside.keys.items c.args.e (0, 0)).1 c.split_ends-own.result.0 c.split_ends-own.result.1 =
    subst (λ (p : ℕ × ℕ). SplitsEnds c.self.inside.ends c.split_ends-own.new.ends c.args.e (length c.self.inside.keys.items) p.0 p.1 c.split_ends-own.result.0 c.split_ends-own.result.1) pair
    (subst (λ z. SplitsEnds c.self.inside.ends c.split_ends-own.new.ends c.args.e z c.index.result.now.0 c.index.result.now.1 c.split_ends-own.result.0 c.split_ends-own.result.1) m c.split_ends-own.ensures.splits) in
    let keys : c.push_reserved.new.self.items ≡ keys_after c.self.inside.ends c.split_ends-own.new.ends c.self.inside.keys.items c.self.inside.first.items c.args.e c.split_ends-own.result.0 c.split_ends-own.result.1 le c.self.invariant splits =
    c.push_reserved.ensures.items ∙ ap (λ (p : ℕ × ℕ). set c.self.inside.keys.items c.args.e (p.0, c.split_ends-own.result.0) ++ (c.split_ends-own.result.1, p.1) ∷ []) pair in
    let first : c.push_reserved-2.new.self.items ≡ first_after c.self.inside.ends c.split_ends-own.new.ends c.self.inside.keys.items c.self.inside.first.items c.args.e c.split_ends-own.result.0 c.split_ends-own.result.1 le c.self.invariant splits = c.push_reserved-2.ensures.items in
    subst (λ (z : LinkTables). AreLinksSplit z.ccw (2 * c.args.e + 1) (map (ccw_at c.split_ends-own.new.ends c.push_reserved.new.self.items) (range_with_len 0 (2 * length c.push_reserved.new.self.items)))) q
    (subst (λ (z : List (ℕ × ℕ)). AreLinksSplit (links_of c.self.inside.ends c.self.inside.keys.items c.self.inside.first.items c.self.inside.keys.cap c.self.inside.first.cap).ccw (2 * c.args.e + 1) (map (ccw_at c.split_ends-own.new.ends z) (range_with_len 0 (2 * length z)))) (sym keys)
    (ccw_after c.self.inside.ends c.split_ends-own.new.ends c.self.inside.keys.items c.self.inside.first.items c.args.e c.split_ends-own.result.0 c.split_ends-own.result.1 le c.self.invariant splits c.self.inside.keys.cap c.self.inside.first.cap 0 0))

pub returns-clause-first : goal.returns-clause-first
returns-clause-first c =
    let q = c.self.view_is in
    let le2 : 2 * c.args.e + 1 < 2 * length c.self.inside.keys.items = asked_cw c.self.inside.ends c.self.inside.keys.items c.self.inside.first.items c.self.inside.keys.cap c.self.inside.first.cap c.args.self.now c.self.view_is (2 * c.args.e + 1) c.requires.edge in
    let le : c.args.e < length c.self.inside.keys.items = omega arith in
    let pair : c.index.result.now ≡ get_or c.self.inside.keys.items c.args.e (0, 0) = c.index.ensures ∙ get_or_default c.self.inside.keys.items c.args.e c.index.result.now (0, 0) le in
    let m : c.len-edge.result ≡ length c.self.inside.keys.items = search rules in
    let splits : SplitsEnds c.self.inside.ends c.split_ends-own.new.ends c.args.e (length c.self.inside.keys.items) (get_or c.self.inside.keys.items c.args.e (0, 0)).0 (get_or c.self.inside.keys.items c.args.e (0, 0)).1 c.split_ends-own.result.0 c.split_ends-own.result.1 =
    subst (λ (p : ℕ × ℕ). SplitsEnds c.self.inside.ends c.split_ends-own.new.ends c.args.e (length c.self.inside.keys.items) p.0 p.1 c.split_ends-own.result.0 c.split_ends-own.result.1) pair
    (subst (λ z. SplitsEnds c.self.inside.ends c.split_ends-own.new.ends c.args.e z c.index.result.now.0 c.index.result.now.1 c.split_ends-own.result.0 c.split_ends-own.result.1) m c.split_ends-own.ensures.splits) in
    let keys : c.push_reserved.new.self.items ≡ keys_after c.self.inside.ends c.split_ends-own.new.ends c.self.inside.keys.items c.self.inside.first.items c.args.e c.split_ends-own.result.0 c.split_ends-own.result.1 le c.self.invariant splits =
    c.push_reserved.ensures.items ∙ ap (λ (p : ℕ × ℕ). set c.self.inside.keys.items c.args.e (p.0, c.split_ends-own.result.0) ++ (c.split_ends-own.result.1, p.1) ∷ []) pair in
    let first : c.push_reserved-2.new.self.items ≡ first_after c.self.inside.ends c.split_ends-own.new.ends c.self.inside.keys.items c.self.inside.first.items c.args.e c.split_ends-own.result.0 c.split_ends-own.result.1 le c.self.invariant splits = c.push_reserved-2.ensures.items in
    ap (λ (z : List (Option ℕ)). map (first_at c.split_ends-own.new.ends) z) first
    ∙ first_after_is c.self.inside.ends c.split_ends-own.new.ends c.self.inside.keys.items c.self.inside.first.items c.args.e c.split_ends-own.result.0 c.split_ends-own.result.1 le c.self.invariant splits c.self.inside.keys.cap c.self.inside.first.cap 0 0
    ∙ ap (λ (z : LinkTables). map (renumbered (2 * c.args.e + 1) (suc (length z.cw))) z.first ++ length z.cw ∷ []) q
