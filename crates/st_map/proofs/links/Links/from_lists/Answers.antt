use Rattle.std.proofs.Common.{◌≡◌, ℕ, List, length, subst, arith}
use Rattle.st_ids.specs.Graph.{Graph}
use Rattle.st_map.specs.Chains.{AreFirstKeysOf, AreListsChained}
use Rattle.st_map.proofs.ChainLemmas.{chained_ccw, chained_cw, chained_firsts, chained_links}
use Rattle.st_map.proofs.links.Links.from_lists.Goals as goal

pub invariant_of-result : goal.invariant_of-result
invariant_of-result c =
    let g : Graph = record { vertices = c.args.n; ends = c.args.arcs.now } in
    let C : AreListsChained c.link_lists.new.ends c.in_ok-ends.keys.items c.args.arcs.now c.args.orders.now c.args.n =
    subst (λ (z : List (ℕ × ℕ)). AreListsChained c.link_lists.new.ends z c.args.arcs.now c.args.orders.now c.args.n) c.deref.ensures.value c.in_ok-first.ensures.chained in
    let F : AreFirstKeysOf c.in_ok-ends.keys.items c.args.arcs.now c.args.orders.now c.args.n c.in_ok-first.first.items =
    subst (λ (z : List (ℕ × ℕ)). AreFirstKeysOf z c.args.arcs.now c.args.orders.now c.args.n c.in_ok-first.first.items) c.deref.ensures.value c.in_ok-first.ensures.first in
    let size : length c.in_ok-ends.keys.items ≡ length c.args.arcs.now = c.in_ok-ends.ensures.named.size in
    chained_links g c.args.orders.now c.requires.within c.requires.no_loop c.requires.edges c.requires.lawful c.link_lists.new.ends c.in_ok-ends.keys.items size C c.in_ok-first.first.items F
    (omega (arith, c.requires.few)) (omega (arith, c.link_lists.ensures.count, c.in_ok-ends.ensures.count))

pub returns-clause-cw : goal.returns-clause-cw
returns-clause-cw c =
    let g : Graph = record { vertices = c.args.n; ends = c.args.arcs.now } in
    let C : AreListsChained c.link_lists.new.ends c.in_ok-ends.keys.items c.args.arcs.now c.args.orders.now c.args.n =
    subst (λ (z : List (ℕ × ℕ)). AreListsChained c.link_lists.new.ends z c.args.arcs.now c.args.orders.now c.args.n) c.deref.ensures.value c.in_ok-first.ensures.chained in
    chained_cw g c.args.orders.now c.requires.within c.requires.no_loop c.requires.edges c.requires.lawful c.link_lists.new.ends c.in_ok-ends.keys.items c.in_ok-ends.ensures.named.size C

pub returns-clause-ccw : goal.returns-clause-ccw
returns-clause-ccw c =
    let g : Graph = record { vertices = c.args.n; ends = c.args.arcs.now } in
    let C : AreListsChained c.link_lists.new.ends c.in_ok-ends.keys.items c.args.arcs.now c.args.orders.now c.args.n =
    subst (λ (z : List (ℕ × ℕ)). AreListsChained c.link_lists.new.ends z c.args.arcs.now c.args.orders.now c.args.n) c.deref.ensures.value c.in_ok-first.ensures.chained in
    chained_ccw g c.args.orders.now c.requires.within c.requires.no_loop c.requires.edges c.requires.lawful c.link_lists.new.ends c.in_ok-ends.keys.items c.in_ok-ends.ensures.named.size C

pub returns-clause-first : goal.returns-clause-first
returns-clause-first c =
    let g : Graph = record { vertices = c.args.n; ends = c.args.arcs.now } in
    let C : AreListsChained c.link_lists.new.ends c.in_ok-ends.keys.items c.args.arcs.now c.args.orders.now c.args.n =
    subst (λ (z : List (ℕ × ℕ)). AreListsChained c.link_lists.new.ends z c.args.arcs.now c.args.orders.now c.args.n) c.deref.ensures.value c.in_ok-first.ensures.chained in
    let F : AreFirstKeysOf c.in_ok-ends.keys.items c.args.arcs.now c.args.orders.now c.args.n c.in_ok-first.first.items =
    subst (λ (z : List (ℕ × ℕ)). AreFirstKeysOf z c.args.arcs.now c.args.orders.now c.args.n c.in_ok-first.first.items) c.deref.ensures.value c.in_ok-first.ensures.first in
    chained_firsts g c.args.orders.now c.requires.within c.requires.no_loop c.requires.edges c.requires.lawful c.link_lists.new.ends c.in_ok-ends.keys.items c.in_ok-ends.ensures.named.size C c.in_ok-first.first.items F
