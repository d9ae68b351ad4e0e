use Rattle.std.proofs.Common.{rules, ◌≡◌, ℕ, suc, ◌+◌, ◌-◌, ◌*◌, ◌<◌, List, map, set, length, get_or, vec_len, refl, sym, ap, ◌∙◌, subst, arith}
use Rattle.std.proofs.lemmas.List.{get_or_default, length-map, length-set}
use Rattle.st_ids.specs.Graph.{tail_of, head_of}
use Rattle.st_map.specs.Embedded.{Embedded, MapValue, edges}
use Rattle.st_map.specs.Remove.{removed}
use Rattle.st_map.specs.Tables.{AreLinksRemoved, IsMap, first_left, lowered_at, rotation_of, tables}
use Rattle.st_map.proofs.EndLemmas.{at-tail, at-head}
use Rattle.st_map.proofs.MapTables.{tables_of}
use Rattle.st_map.proofs.RemoveTables.{apart_cw, apart_cw', degree_head, degree_left, ends_left, first_at_vertex, forth_is, map_left, room_left, rotation_left, some_head, some_tail, tables_left}
use Rattle.st_map.proofs.map.Map.remove_edge.Goals as goal

pub overflow_sub-last : goal.overflow_sub-last
unfolding tail_of head_of
overflow_sub-last c =
    let eq : rotation_of (tables_of c.self.inside) ≡ c.args.self.now.graph = ap (λ (z : MapValue). z.graph) c.self.view_is in
    let le : c.args.e.0 < length c.self.inside.ends.items = subst (λ (g : Embedded). c.args.e.0 < edges g) (sym eq) c.requires in
    let ve : vec_len c.self.inside.ends ≡ length c.self.inside.ends.items = search rules in
    omega arith

pub index-requires : goal.index-requires
unfolding tail_of head_of
index-requires c =
    let eq : rotation_of (tables_of c.self.inside) ≡ c.args.self.now.graph = ap (λ (z : MapValue). z.graph) c.self.view_is in
    let le : c.args.e.0 < length c.self.inside.ends.items = subst (λ (g : Embedded). c.args.e.0 < edges g) (sym eq) c.requires in
    let ve : vec_len c.self.inside.ends ≡ length c.self.inside.ends.items = search rules in
    omega arith

pub remove-requires-clause-edge : goal.remove-requires-clause-edge
unfolding tail_of head_of
remove-requires-clause-edge c =
    let eq : rotation_of (tables_of c.self.inside) ≡ c.args.self.now.graph = ap (λ (z : MapValue). z.graph) c.self.view_is in
    let le : c.args.e.0 < length c.self.inside.ends.items = subst (λ (g : Embedded). c.args.e.0 < edges g) (sym eq) c.requires in
    omega (arith, c.self.invariant.0.clockwise.size)

pub remove-requires-clause-vertices : goal.remove-requires-clause-vertices
unfolding tail_of head_of
remove-requires-clause-vertices c =
    let eq : rotation_of (tables_of c.self.inside) ≡ c.args.self.now.graph = ap (λ (z : MapValue). z.graph) c.self.view_is in
    let le : c.args.e.0 < length c.self.inside.ends.items = subst (λ (g : Embedded). c.args.e.0 < edges g) (sym eq) c.requires in
    let pair : c.index.result.now ≡ get_or c.self.inside.ends.items c.args.e.0 (0, 0) = c.index.ensures ∙ get_or_default c.self.inside.ends.items c.args.e.0 c.index.result.now (0, 0) le in
    let tail : c.index.result.now.0 ≡ tail_of c.self.inside.ends.items c.args.e.0 = ap (λ (p : ℕ × ℕ). p.0) pair in
    let head : c.index.result.now.1 ≡ head_of c.self.inside.ends.items c.args.e.0 = ap (λ (p : ℕ × ℕ). p.1) pair in
    (omega (arith, (c.self.invariant.0.rotation.ends c.args.e.0 le).0, c.self.invariant.0.firsts), omega (arith, (c.self.invariant.0.rotation.ends c.args.e.0 le).1, c.self.invariant.0.firsts), λ q. c.self.invariant.0.no_loop c.args.e.0 le (sym tail ∙ q ∙ head))

pub remove-requires-clause-back : goal.remove-requires-clause-back
unfolding tail_of head_of
remove-requires-clause-back c =
    c.self.invariant.0.counter

pub remove-requires-clause-forth : goal.remove-requires-clause-forth
unfolding tail_of head_of
remove-requires-clause-forth c =
    let eq : rotation_of (tables_of c.self.inside) ≡ c.args.self.now.graph = ap (λ (z : MapValue). z.graph) c.self.view_is in
    let le : c.args.e.0 < length c.self.inside.ends.items = subst (λ (g : Embedded). c.args.e.0 < edges g) (sym eq) c.requires in
    forth_is (tables_of c.self.inside) c.self.invariant.0 c.args.e.0 le

pub remove-requires-clause-apart : goal.remove-requires-clause-apart
unfolding tail_of head_of
remove-requires-clause-apart c =
    let eq : rotation_of (tables_of c.self.inside) ≡ c.args.self.now.graph = ap (λ (z : MapValue). z.graph) c.self.view_is in
    let le : c.args.e.0 < length c.self.inside.ends.items = subst (λ (g : Embedded). c.args.e.0 < edges g) (sym eq) c.requires in
    (apart_cw (tables_of c.self.inside) c.self.invariant.0 c.args.e.0 le, apart_cw' (tables_of c.self.inside) c.self.invariant.0 c.args.e.0 le)

pub remove-requires-clause-first_tail : goal.remove-requires-clause-first_tail
unfolding tail_of head_of
remove-requires-clause-first_tail c =
    let eq : rotation_of (tables_of c.self.inside) ≡ c.args.self.now.graph = ap (λ (z : MapValue). z.graph) c.self.view_is in
    let le : c.args.e.0 < length c.self.inside.ends.items = subst (λ (g : Embedded). c.args.e.0 < edges g) (sym eq) c.requires in
    let pair : c.index.result.now ≡ get_or c.self.inside.ends.items c.args.e.0 (0, 0) = c.index.ensures ∙ get_or_default c.self.inside.ends.items c.args.e.0 c.index.result.now (0, 0) le in
    let tail : c.index.result.now.0 ≡ tail_of c.self.inside.ends.items c.args.e.0 = ap (λ (p : ℕ × ℕ). p.0) pair in
    let head : c.index.result.now.1 ≡ head_of c.self.inside.ends.items c.args.e.0 = ap (λ (p : ℕ × ℕ). p.1) pair in
    λ v l q. first_at_vertex (tables_of c.self.inside) c.self.invariant.0 c.args.e.0 le (2 * c.args.e.0) v c.index.result.now.0 (omega arith) (at-tail (rotation_of (tables_of c.self.inside)) c.args.e.0 ∙ sym tail) l q

pub remove-requires-clause-first_head : goal.remove-requires-clause-first_head
unfolding tail_of head_of
remove-requires-clause-first_head c =
    let eq : rotation_of (tables_of c.self.inside) ≡ c.args.self.now.graph = ap (λ (z : MapValue). z.graph) c.self.view_is in
    let le : c.args.e.0 < length c.self.inside.ends.items = subst (λ (g : Embedded). c.args.e.0 < edges g) (sym eq) c.requires in
    let pair : c.index.result.now ≡ get_or c.self.inside.ends.items c.args.e.0 (0, 0) = c.index.ensures ∙ get_or_default c.self.inside.ends.items c.args.e.0 c.index.result.now (0, 0) le in
    let tail : c.index.result.now.0 ≡ tail_of c.self.inside.ends.items c.args.e.0 = ap (λ (p : ℕ × ℕ). p.0) pair in
    let head : c.index.result.now.1 ≡ head_of c.self.inside.ends.items c.args.e.0 = ap (λ (p : ℕ × ℕ). p.1) pair in
    λ v l q. first_at_vertex (tables_of c.self.inside) c.self.invariant.0 c.args.e.0 le (2 * c.args.e.0 + 1) v c.index.result.now.1 (omega arith) (at-head (rotation_of (tables_of c.self.inside)) c.args.e.0 ∙ sym head) l q

pub index_mut-requires : goal.index_mut-requires
unfolding tail_of head_of
index_mut-requires c =
    let eq : rotation_of (tables_of c.self.inside) ≡ c.args.self.now.graph = ap (λ (z : MapValue). z.graph) c.self.view_is in
    let le : c.args.e.0 < length c.self.inside.ends.items = subst (λ (g : Embedded). c.args.e.0 < edges g) (sym eq) c.requires in
    let pair : c.index.result.now ≡ get_or c.self.inside.ends.items c.args.e.0 (0, 0) = c.index.ensures ∙ get_or_default c.self.inside.ends.items c.args.e.0 c.index.result.now (0, 0) le in
    let tail : c.index.result.now.0 ≡ tail_of c.self.inside.ends.items c.args.e.0 = ap (λ (p : ℕ × ℕ). p.0) pair in
    let head : c.index.result.now.1 ≡ head_of c.self.inside.ends.items c.args.e.0 = ap (λ (p : ℕ × ℕ). p.1) pair in
    let vd : vec_len c.self.inside.degree ≡ length c.self.inside.degree.items = search rules in
    omega (arith, (c.self.invariant.0.rotation.ends c.args.e.0 le).0, c.self.invariant.0.degrees)

pub overflow_sub-index_mut : goal.overflow_sub-index_mut
unfolding tail_of head_of
overflow_sub-index_mut c =
    let eq : rotation_of (tables_of c.self.inside) ≡ c.args.self.now.graph = ap (λ (z : MapValue). z.graph) c.self.view_is in
    let le : c.args.e.0 < length c.self.inside.ends.items = subst (λ (g : Embedded). c.args.e.0 < edges g) (sym eq) c.requires in
    let pair : c.index.result.now ≡ get_or c.self.inside.ends.items c.args.e.0 (0, 0) = c.index.ensures ∙ get_or_default c.self.inside.ends.items c.args.e.0 c.index.result.now (0, 0) le in
    let tail : c.index.result.now.0 ≡ tail_of c.self.inside.ends.items c.args.e.0 = ap (λ (p : ℕ × ℕ). p.0) pair in
    let head : c.index.result.now.1 ≡ head_of c.self.inside.ends.items c.args.e.0 = ap (λ (p : ℕ × ℕ). p.1) pair in
    let ra : c.index_mut.result.now ≡ get_or c.self.inside.degree.items (tail_of c.self.inside.ends.items c.args.e.0) 0 = c.index_mut.ensures.value ∙ ap (λ z. get_or c.self.inside.degree.items z c.index_mut.result.now) tail ∙ get_or_default c.self.inside.degree.items (tail_of c.self.inside.ends.items c.args.e.0) c.index_mut.result.now 0 (omega (arith, (c.self.invariant.0.rotation.ends c.args.e.0 le).0, c.self.invariant.0.degrees)) in
    omega (arith, some_tail (tables_of c.self.inside) c.self.invariant.0 c.args.e.0 le)

pub index_mut-requires-2 : goal.index_mut-requires-2
unfolding tail_of head_of
index_mut-requires-2 c =
    let eq : rotation_of (tables_of c.self.inside) ≡ c.args.self.now.graph = ap (λ (z : MapValue). z.graph) c.self.view_is in
    let le : c.args.e.0 < length c.self.inside.ends.items = subst (λ (g : Embedded). c.args.e.0 < edges g) (sym eq) c.requires in
    let pair : c.index.result.now ≡ get_or c.self.inside.ends.items c.args.e.0 (0, 0) = c.index.ensures ∙ get_or_default c.self.inside.ends.items c.args.e.0 c.index.result.now (0, 0) le in
    let tail : c.index.result.now.0 ≡ tail_of c.self.inside.ends.items c.args.e.0 = ap (λ (p : ℕ × ℕ). p.0) pair in
    let head : c.index.result.now.1 ≡ head_of c.self.inside.ends.items c.args.e.0 = ap (λ (p : ℕ × ℕ). p.1) pair in
    let vd : vec_len c.self.inside.degree ≡ length c.self.inside.degree.items = search rules in
    omega (arith, (c.self.invariant.0.rotation.ends c.args.e.0 le).1, c.self.invariant.0.degrees)

pub overflow_sub-index_mut-2 : goal.overflow_sub-index_mut-2
unfolding tail_of head_of
overflow_sub-index_mut-2 c =
    let eq : rotation_of (tables_of c.self.inside) ≡ c.args.self.now.graph = ap (λ (z : MapValue). z.graph) c.self.view_is in
    let le : c.args.e.0 < length c.self.inside.ends.items = subst (λ (g : Embedded). c.args.e.0 < edges g) (sym eq) c.requires in
    let pair : c.index.result.now ≡ get_or c.self.inside.ends.items c.args.e.0 (0, 0) = c.index.ensures ∙ get_or_default c.self.inside.ends.items c.args.e.0 c.index.result.now (0, 0) le in
    let tail : c.index.result.now.0 ≡ tail_of c.self.inside.ends.items c.args.e.0 = ap (λ (p : ℕ × ℕ). p.0) pair in
    let head : c.index.result.now.1 ≡ head_of c.self.inside.ends.items c.args.e.0 = ap (λ (p : ℕ × ℕ). p.1) pair in
    let ra : c.index_mut.result.now ≡ get_or c.self.inside.degree.items (tail_of c.self.inside.ends.items c.args.e.0) 0 = c.index_mut.ensures.value ∙ ap (λ z. get_or c.self.inside.degree.items z c.index_mut.result.now) tail ∙ get_or_default c.self.inside.degree.items (tail_of c.self.inside.ends.items c.args.e.0) c.index_mut.result.now 0 (omega (arith, (c.self.invariant.0.rotation.ends c.args.e.0 le).0, c.self.invariant.0.degrees)) in
    let da : set c.self.inside.degree.items c.index.result.now.0 (c.index_mut.result.now - 1) ≡ lowered_at c.self.inside.degree.items (tail_of c.self.inside.ends.items c.args.e.0) = ap (λ z. set c.self.inside.degree.items z (c.index_mut.result.now - 1)) tail ∙ ap (λ z. set c.self.inside.degree.items (tail_of c.self.inside.ends.items c.args.e.0) (z - 1)) ra in
    let long : length (lowered_at c.self.inside.degree.items (tail_of c.self.inside.ends.items c.args.e.0)) ≡ length c.self.inside.degree.items = length-set c.self.inside.degree.items (tail_of c.self.inside.ends.items c.args.e.0) (get_or c.self.inside.degree.items (tail_of c.self.inside.ends.items c.args.e.0) 0 - 1) in
    let rb : c.index_mut-2.result.now ≡ get_or (lowered_at c.self.inside.degree.items (tail_of c.self.inside.ends.items c.args.e.0)) (head_of c.self.inside.ends.items c.args.e.0) 0 =
    c.index_mut-2.ensures.value ∙ ap (λ (z : List ℕ). get_or z c.index.result.now.1 c.index_mut-2.result.now) da ∙ ap (λ z. get_or (lowered_at c.self.inside.degree.items (tail_of c.self.inside.ends.items c.args.e.0)) z c.index_mut-2.result.now) head
    ∙ get_or_default (lowered_at c.self.inside.degree.items (tail_of c.self.inside.ends.items c.args.e.0)) (head_of c.self.inside.ends.items c.args.e.0) c.index_mut-2.result.now 0 (omega (arith, (c.self.invariant.0.rotation.ends c.args.e.0 le).1, c.self.invariant.0.degrees)) in
    omega (arith, degree_head (tables_of c.self.inside) c.self.invariant.0 c.args.e.0 le, some_head (tables_of c.self.inside) c.self.invariant.0 c.args.e.0 le)

pub swap_remove-requires : goal.swap_remove-requires
unfolding tail_of head_of
swap_remove-requires c =
    let eq : rotation_of (tables_of c.self.inside) ≡ c.args.self.now.graph = ap (λ (z : MapValue). z.graph) c.self.view_is in
    let le : c.args.e.0 < length c.self.inside.ends.items = subst (λ (g : Embedded). c.args.e.0 < edges g) (sym eq) c.requires in
    let ve : vec_len c.self.inside.ends ≡ length c.self.inside.ends.items = search rules in
    omega arith

pub returns-clause-graph : goal.returns-clause-graph
unfolding tail_of head_of
returns-clause-graph c =
    let eq : rotation_of (tables_of c.self.inside) ≡ c.args.self.now.graph = ap (λ (z : MapValue). z.graph) c.self.view_is in
    let le : c.args.e.0 < length c.self.inside.ends.items = subst (λ (g : Embedded). c.args.e.0 < edges g) (sym eq) c.requires in
    let pair : c.index.result.now ≡ get_or c.self.inside.ends.items c.args.e.0 (0, 0) = c.index.ensures ∙ get_or_default c.self.inside.ends.items c.args.e.0 c.index.result.now (0, 0) le in
    let tail : c.index.result.now.0 ≡ tail_of c.self.inside.ends.items c.args.e.0 = ap (λ (p : ℕ × ℕ). p.0) pair in
    let head : c.index.result.now.1 ≡ head_of c.self.inside.ends.items c.args.e.0 = ap (λ (p : ℕ × ℕ). p.1) pair in
    let ve : vec_len c.self.inside.ends ≡ length c.self.inside.ends.items = search rules in
    let ra : c.index_mut.result.now ≡ get_or c.self.inside.degree.items (tail_of c.self.inside.ends.items c.args.e.0) 0 = c.index_mut.ensures.value ∙ ap (λ z. get_or c.self.inside.degree.items z c.index_mut.result.now) tail ∙ get_or_default c.self.inside.degree.items (tail_of c.self.inside.ends.items c.args.e.0) c.index_mut.result.now 0 (omega (arith, (c.self.invariant.0.rotation.ends c.args.e.0 le).0, c.self.invariant.0.degrees)) in
    let da : set c.self.inside.degree.items c.index.result.now.0 (c.index_mut.result.now - 1) ≡ lowered_at c.self.inside.degree.items (tail_of c.self.inside.ends.items c.args.e.0) = ap (λ z. set c.self.inside.degree.items z (c.index_mut.result.now - 1)) tail ∙ ap (λ z. set c.self.inside.degree.items (tail_of c.self.inside.ends.items c.args.e.0) (z - 1)) ra in
    let long : length (lowered_at c.self.inside.degree.items (tail_of c.self.inside.ends.items c.args.e.0)) ≡ length c.self.inside.degree.items = length-set c.self.inside.degree.items (tail_of c.self.inside.ends.items c.args.e.0) (get_or c.self.inside.degree.items (tail_of c.self.inside.ends.items c.args.e.0) 0 - 1) in
    let rb : c.index_mut-2.result.now ≡ get_or (lowered_at c.self.inside.degree.items (tail_of c.self.inside.ends.items c.args.e.0)) (head_of c.self.inside.ends.items c.args.e.0) 0 =
    c.index_mut-2.ensures.value ∙ ap (λ (z : List ℕ). get_or z c.index.result.now.1 c.index_mut-2.result.now) da ∙ ap (λ z. get_or (lowered_at c.self.inside.degree.items (tail_of c.self.inside.ends.items c.args.e.0)) z c.index_mut-2.result.now) head
    ∙ get_or_default (lowered_at c.self.inside.degree.items (tail_of c.self.inside.ends.items c.args.e.0)) (head_of c.self.inside.ends.items c.args.e.0) c.index_mut-2.result.now 0 (omega (arith, (c.self.invariant.0.rotation.ends c.args.e.0 le).1, c.self.invariant.0.degrees)) in
    let db : set (set c.self.inside.degree.items c.index.result.now.0 (c.index_mut.result.now - 1)) c.index.result.now.1 (c.index_mut-2.result.now - 1) ≡ degree_left (tables_of c.self.inside) c.self.invariant.0 c.args.e.0 le =
    ap (λ (z : List ℕ). set z c.index.result.now.1 (c.index_mut-2.result.now - 1)) da ∙ ap (λ z. set (lowered_at c.self.inside.degree.items (tail_of c.self.inside.ends.items c.args.e.0)) z (c.index_mut-2.result.now - 1)) head ∙ ap (λ z. set (lowered_at c.self.inside.degree.items (tail_of c.self.inside.ends.items c.args.e.0)) (head_of c.self.inside.ends.items c.args.e.0) (z - 1)) rb in
    let few : length c.self.inside.ends.items ≡ suc (length c.self.inside.ends.items - 1) = omega arith in
    let h : length c.self.inside.links.cw ≡ suc (suc (2 * (length c.self.inside.ends.items - 1))) = omega (arith, c.self.invariant.0.clockwise.size) in
    let C : AreLinksRemoved c.self.inside.links.cw (length c.self.inside.ends.items - 1) c.args.e.0 c.remove.new.self.cw = c.remove.ensures.cw (length c.self.inside.ends.items - 1) h in
    let B : AreLinksRemoved c.self.inside.links.ccw (length c.self.inside.ends.items - 1) c.args.e.0 c.remove.new.self.ccw = c.remove.ensures.ccw (length c.self.inside.ends.items - 1) h in
    let vs : vec_len c.swap_remove.new.self ≡ length c.swap_remove.new.self.items = search rules in
    let es : c.swap_remove.new.self.items ≡ (removed (rotation_of (tables_of c.self.inside)) c.args.e.0).ends =
    ends_left (rotation_of (tables_of c.self.inside)) c.args.e.0 c.swap_remove.new.self.items (omega (arith, c.swap_remove.ensures.len)) (λ d l. c.swap_remove.ensures.by_index.0 d (omega arith) ∙ ap (λ z. get_or c.self.inside.ends.items (z - 1) d) ve) (λ k d n l. c.swap_remove.ensures.by_index.1 k d n (omega arith)) in
    let same : tables c.self.inside.vertices c.swap_remove.new.self.items c.remove.new.self.first (set (set c.self.inside.degree.items c.index.result.now.0 (c.index_mut.result.now - 1)) c.index.result.now.1 (c.index_mut-2.result.now - 1)) c.remove.new.self.cw c.remove.new.self.ccw ≡ tables_left (tables_of c.self.inside) c.self.invariant.0 c.args.e.0 le (length c.self.inside.ends.items - 1) few c.remove.new.self.cw c.remove.new.self.ccw C B =
    ap (λ (z : List (ℕ × ℕ)). tables c.self.inside.vertices z c.remove.new.self.first (set (set c.self.inside.degree.items c.index.result.now.0 (c.index_mut.result.now - 1)) c.index.result.now.1 (c.index_mut-2.result.now - 1)) c.remove.new.self.cw c.remove.new.self.ccw) es
    ∙ ap (λ (z : List ℕ). tables c.self.inside.vertices (removed (rotation_of (tables_of c.self.inside)) c.args.e.0).ends z (set (set c.self.inside.degree.items c.index.result.now.0 (c.index_mut.result.now - 1)) c.index.result.now.1 (c.index_mut-2.result.now - 1)) c.remove.new.self.cw c.remove.new.self.ccw) (c.remove.ensures.first (length c.self.inside.ends.items - 1) h)
    ∙ ap (λ (z : List ℕ). tables c.self.inside.vertices (removed (rotation_of (tables_of c.self.inside)) c.args.e.0).ends (map (first_left c.self.inside.links.cw (length c.self.inside.ends.items - 1) c.args.e.0) c.self.inside.links.first) z c.remove.new.self.cw c.remove.new.self.ccw) db in
    ap rotation_of same ∙ rotation_left (tables_of c.self.inside) c.self.invariant.0 c.args.e.0 le (length c.self.inside.ends.items - 1) few c.remove.new.self.cw c.remove.new.self.ccw C B ∙ ap (λ (g : Embedded). removed g c.args.e.0) eq

pub invariant_of-self : goal.invariant_of-self
unfolding tail_of head_of
invariant_of-self c =
    let eq : rotation_of (tables_of c.self.inside) ≡ c.args.self.now.graph = ap (λ (z : MapValue). z.graph) c.self.view_is in
    let le : c.args.e.0 < length c.self.inside.ends.items = subst (λ (g : Embedded). c.args.e.0 < edges g) (sym eq) c.requires in
    let pair : c.index.result.now ≡ get_or c.self.inside.ends.items c.args.e.0 (0, 0) = c.index.ensures ∙ get_or_default c.self.inside.ends.items c.args.e.0 c.index.result.now (0, 0) le in
    let tail : c.index.result.now.0 ≡ tail_of c.self.inside.ends.items c.args.e.0 = ap (λ (p : ℕ × ℕ). p.0) pair in
    let head : c.index.result.now.1 ≡ head_of c.self.inside.ends.items c.args.e.0 = ap (λ (p : ℕ × ℕ). p.1) pair in
    let ve : vec_len c.self.inside.ends ≡ length c.self.inside.ends.items = search rules in
    let ra : c.index_mut.result.now ≡ get_or c.self.inside.degree.items (tail_of c.self.inside.ends.items c.args.e.0) 0 = c.index_mut.ensures.value ∙ ap (λ z. get_or c.self.inside.degree.items z c.index_mut.result.now) tail ∙ get_or_default c.self.inside.degree.items (tail_of c.self.inside.ends.items c.args.e.0) c.index_mut.result.now 0 (omega (arith, (c.self.invariant.0.rotation.ends c.args.e.0 le).0, c.self.invariant.0.degrees)) in
    let da : set c.self.inside.degree.items c.index.result.now.0 (c.index_mut.result.now - 1) ≡ lowered_at c.self.inside.degree.items (tail_of c.self.inside.ends.items c.args.e.0) = ap (λ z. set c.self.inside.degree.items z (c.index_mut.result.now - 1)) tail ∙ ap (λ z. set c.self.inside.degree.items (tail_of c.self.inside.ends.items c.args.e.0) (z - 1)) ra in
    let long : length (lowered_at c.self.inside.degree.items (tail_of c.self.inside.ends.items c.args.e.0)) ≡ length c.self.inside.degree.items = length-set c.self.inside.degree.items (tail_of c.self.inside.ends.items c.args.e.0) (get_or c.self.inside.degree.items (tail_of c.self.inside.ends.items c.args.e.0) 0 - 1) in
    let rb : c.index_mut-2.result.now ≡ get_or (lowered_at c.self.inside.degree.items (tail_of c.self.inside.ends.items c.args.e.0)) (head_of c.self.inside.ends.items c.args.e.0) 0 =
    c.index_mut-2.ensures.value ∙ ap (λ (z : List ℕ). get_or z c.index.result.now.1 c.index_mut-2.result.now) da ∙ ap (λ z. get_or (lowered_at c.self.inside.degree.items (tail_of c.self.inside.ends.items c.args.e.0)) z c.index_mut-2.result.now) head
    ∙ get_or_default (lowered_at c.self.inside.degree.items (tail_of c.self.inside.ends.items c.args.e.0)) (head_of c.self.inside.ends.items c.args.e.0) c.index_mut-2.result.now 0 (omega (arith, (c.self.invariant.0.rotation.ends c.args.e.0 le).1, c.self.invariant.0.degrees)) in
    let db : set (set c.self.inside.degree.items c.index.result.now.0 (c.index_mut.result.now - 1)) c.index.result.now.1 (c.index_mut-2.result.now - 1) ≡ degree_left (tables_of c.self.inside) c.self.invariant.0 c.args.e.0 le =
    ap (λ (z : List ℕ). set z c.index.result.now.1 (c.index_mut-2.result.now - 1)) da ∙ ap (λ z. set (lowered_at c.self.inside.degree.items (tail_of c.self.inside.ends.items c.args.e.0)) z (c.index_mut-2.result.now - 1)) head ∙ ap (λ z. set (lowered_at c.self.inside.degree.items (tail_of c.self.inside.ends.items c.args.e.0)) (head_of c.self.inside.ends.items c.args.e.0) (z - 1)) rb in
    let few : length c.self.inside.ends.items ≡ suc (length c.self.inside.ends.items - 1) = omega arith in
    let h : length c.self.inside.links.cw ≡ suc (suc (2 * (length c.self.inside.ends.items - 1))) = omega (arith, c.self.invariant.0.clockwise.size) in
    let C : AreLinksRemoved c.self.inside.links.cw (length c.self.inside.ends.items - 1) c.args.e.0 c.remove.new.self.cw = c.remove.ensures.cw (length c.self.inside.ends.items - 1) h in
    let B : AreLinksRemoved c.self.inside.links.ccw (length c.self.inside.ends.items - 1) c.args.e.0 c.remove.new.self.ccw = c.remove.ensures.ccw (length c.self.inside.ends.items - 1) h in
    let vs : vec_len c.swap_remove.new.self ≡ length c.swap_remove.new.self.items = search rules in
    let es : c.swap_remove.new.self.items ≡ (removed (rotation_of (tables_of c.self.inside)) c.args.e.0).ends =
    ends_left (rotation_of (tables_of c.self.inside)) c.args.e.0 c.swap_remove.new.self.items (omega (arith, c.swap_remove.ensures.len)) (λ d l. c.swap_remove.ensures.by_index.0 d (omega arith) ∙ ap (λ z. get_or c.self.inside.ends.items (z - 1) d) ve) (λ k d n l. c.swap_remove.ensures.by_index.1 k d n (omega arith)) in
    let same : tables c.self.inside.vertices c.swap_remove.new.self.items c.remove.new.self.first (set (set c.self.inside.degree.items c.index.result.now.0 (c.index_mut.result.now - 1)) c.index.result.now.1 (c.index_mut-2.result.now - 1)) c.remove.new.self.cw c.remove.new.self.ccw ≡ tables_left (tables_of c.self.inside) c.self.invariant.0 c.args.e.0 le (length c.self.inside.ends.items - 1) few c.remove.new.self.cw c.remove.new.self.ccw C B =
    ap (λ (z : List (ℕ × ℕ)). tables c.self.inside.vertices z c.remove.new.self.first (set (set c.self.inside.degree.items c.index.result.now.0 (c.index_mut.result.now - 1)) c.index.result.now.1 (c.index_mut-2.result.now - 1)) c.remove.new.self.cw c.remove.new.self.ccw) es
    ∙ ap (λ (z : List ℕ). tables c.self.inside.vertices (removed (rotation_of (tables_of c.self.inside)) c.args.e.0).ends z (set (set c.self.inside.degree.items c.index.result.now.0 (c.index_mut.result.now - 1)) c.index.result.now.1 (c.index_mut-2.result.now - 1)) c.remove.new.self.cw c.remove.new.self.ccw) (c.remove.ensures.first (length c.self.inside.ends.items - 1) h)
    ∙ ap (λ (z : List ℕ). tables c.self.inside.vertices (removed (rotation_of (tables_of c.self.inside)) c.args.e.0).ends (map (first_left c.self.inside.links.cw (length c.self.inside.ends.items - 1) c.args.e.0) c.self.inside.links.first) z c.remove.new.self.cw c.remove.new.self.ccw) db in (
      subst IsMap (sym same) (map_left (tables_of c.self.inside) c.self.invariant.0 c.args.e.0 le (length c.self.inside.ends.items - 1) few c.remove.new.self.cw c.remove.new.self.ccw C B),
      room_left c.self.invariant.1 (omega (arith, c.swap_remove.ensures.len)) c.swap_remove.ensures.capacity refl (omega (arith, C.size))
          (ap (λ (z : List ℕ). length z) (c.remove.ensures.first (length c.self.inside.ends.items - 1) h) ∙ length-map c.self.inside.links.first (first_left c.self.inside.links.cw (length c.self.inside.ends.items - 1) c.args.e.0)) c.remove.ensures.rooms,
    )
