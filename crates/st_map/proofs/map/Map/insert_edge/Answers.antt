use Rattle.std.proofs.Common.{rules, ◌≡◌, ◌≢◌, ◌+◌, ◌*◌, ◌<◌, ℕ, inl, inr, refl, length, get_or, vec_len, List, [], ◌∷◌, ◌++◌, set, sym, ap, ◌∙◌, subst, arith}
use Rattle.std.proofs.lemmas.Bool.{cases_lt}
use Rattle.std.proofs.lemmas.List.{get_or_default, length-set}
use Rattle.st_map.specs.Embedded.{Embedded, MapValue, at, darts}
use Rattle.st_map.specs.Insert.{insert}
use Rattle.st_map.specs.Links.{HasRoom}
use Rattle.st_map.specs.Tables.{IsMap, bumped_at, rotation_of, tables}
use Rattle.st_map.proofs.EndLemmas.{at_below}
use Rattle.st_map.proofs.InsertTables.{bump_other, cw_after, degree_after, degree_small, ends_after, length-cw_after, length-ends_after, map_after, room_inserted, rotation_after, tables_after}
use Rattle.st_map.proofs.MapTables.{tables_of}
use Rattle.st_map.proofs.map.Map.insert_edge.Goals as goal

pub index_mut-requires : goal.index_mut-requires
unfolding at
index_mut-requires c =
    let eq : rotation_of (tables_of c.self.inside) ≡ c.args.self.now.graph = ap (λ (z : MapValue). z.graph) c.self.view_is in
    let la : c.args.after_a.0 < 2 * length c.self.inside.ends.items = subst (λ (g : Embedded). c.args.after_a.0 < darts g) (sym eq) c.requires.a in
    let lb : c.args.after_b.0 < 2 * length c.self.inside.ends.items = subst (λ (g : Embedded). c.args.after_b.0 < darts g) (sym eq) c.requires.b in
    let ta : c.vertex_at-tail.result ≡ at (rotation_of (tables_of c.self.inside)) c.args.after_a.0 = c.vertex_at-tail.ensures ∙ ap (λ (z : List (ℕ × ℕ)). at (record { vertices = 0; ends = z; orders = [] }) c.args.after_a.0) c.deref.ensures.value in
    let tb : c.vertex_at-head.result ≡ at (rotation_of (tables_of c.self.inside)) c.args.after_b.0 = c.vertex_at-head.ensures ∙ ap (λ (z : List (ℕ × ℕ)). at (record { vertices = 0; ends = z; orders = [] }) c.args.after_b.0) c.deref-2.ensures.value in
    let va : at (rotation_of (tables_of c.self.inside)) c.args.after_a.0 < c.self.inside.vertices = at_below (rotation_of (tables_of c.self.inside)) c.self.invariant.0.rotation.ends c.args.after_a.0 la in
    let vb : at (rotation_of (tables_of c.self.inside)) c.args.after_b.0 < c.self.inside.vertices = at_below (rotation_of (tables_of c.self.inside)) c.self.invariant.0.rotation.ends c.args.after_b.0 lb in
    let m : length c.self.inside.degree.items ≡ c.self.inside.vertices = c.self.invariant.0.degrees in
    let w : vec_len c.self.inside.degree ≡ length c.self.inside.degree.items = search rules in
    omega arith

pub index_mut-requires-2 : goal.index_mut-requires-2
unfolding at
index_mut-requires-2 c =
    let eq : rotation_of (tables_of c.self.inside) ≡ c.args.self.now.graph = ap (λ (z : MapValue). z.graph) c.self.view_is in
    let la : c.args.after_a.0 < 2 * length c.self.inside.ends.items = subst (λ (g : Embedded). c.args.after_a.0 < darts g) (sym eq) c.requires.a in
    let lb : c.args.after_b.0 < 2 * length c.self.inside.ends.items = subst (λ (g : Embedded). c.args.after_b.0 < darts g) (sym eq) c.requires.b in
    let ta : c.vertex_at-tail.result ≡ at (rotation_of (tables_of c.self.inside)) c.args.after_a.0 = c.vertex_at-tail.ensures ∙ ap (λ (z : List (ℕ × ℕ)). at (record { vertices = 0; ends = z; orders = [] }) c.args.after_a.0) c.deref.ensures.value in
    let tb : c.vertex_at-head.result ≡ at (rotation_of (tables_of c.self.inside)) c.args.after_b.0 = c.vertex_at-head.ensures ∙ ap (λ (z : List (ℕ × ℕ)). at (record { vertices = 0; ends = z; orders = [] }) c.args.after_b.0) c.deref-2.ensures.value in
    let va : at (rotation_of (tables_of c.self.inside)) c.args.after_a.0 < c.self.inside.vertices = at_below (rotation_of (tables_of c.self.inside)) c.self.invariant.0.rotation.ends c.args.after_a.0 la in
    let vb : at (rotation_of (tables_of c.self.inside)) c.args.after_b.0 < c.self.inside.vertices = at_below (rotation_of (tables_of c.self.inside)) c.self.invariant.0.rotation.ends c.args.after_b.0 lb in
    let m : length c.self.inside.degree.items ≡ c.self.inside.vertices = c.self.invariant.0.degrees in
    let w : vec_len c.self.inside.degree ≡ length c.self.inside.degree.items = search rules in
    omega arith

pub overflow_add-index_mut : goal.overflow_add-index_mut
unfolding at
overflow_add-index_mut c =
    let eq : rotation_of (tables_of c.self.inside) ≡ c.args.self.now.graph = ap (λ (z : MapValue). z.graph) c.self.view_is in
    let la : c.args.after_a.0 < 2 * length c.self.inside.ends.items = subst (λ (g : Embedded). c.args.after_a.0 < darts g) (sym eq) c.requires.a in
    let lb : c.args.after_b.0 < 2 * length c.self.inside.ends.items = subst (λ (g : Embedded). c.args.after_b.0 < darts g) (sym eq) c.requires.b in
    let ta : c.vertex_at-tail.result ≡ at (rotation_of (tables_of c.self.inside)) c.args.after_a.0 = c.vertex_at-tail.ensures ∙ ap (λ (z : List (ℕ × ℕ)). at (record { vertices = 0; ends = z; orders = [] }) c.args.after_a.0) c.deref.ensures.value in
    let tb : c.vertex_at-head.result ≡ at (rotation_of (tables_of c.self.inside)) c.args.after_b.0 = c.vertex_at-head.ensures ∙ ap (λ (z : List (ℕ × ℕ)). at (record { vertices = 0; ends = z; orders = [] }) c.args.after_b.0) c.deref-2.ensures.value in
    let va : at (rotation_of (tables_of c.self.inside)) c.args.after_a.0 < c.self.inside.vertices = at_below (rotation_of (tables_of c.self.inside)) c.self.invariant.0.rotation.ends c.args.after_a.0 la in
    let vb : at (rotation_of (tables_of c.self.inside)) c.args.after_b.0 < c.self.inside.vertices = at_below (rotation_of (tables_of c.self.inside)) c.self.invariant.0.rotation.ends c.args.after_b.0 lb in
    let m : length c.self.inside.degree.items ≡ c.self.inside.vertices = c.self.invariant.0.degrees in
    let ra : c.index_mut.result.now ≡ get_or c.self.inside.degree.items (at (rotation_of (tables_of c.self.inside)) c.args.after_a.0) 0 = c.index_mut.ensures.value ∙ ap (λ z. get_or c.self.inside.degree.items z c.index_mut.result.now) ta ∙ get_or_default c.self.inside.degree.items (at (rotation_of (tables_of c.self.inside)) c.args.after_a.0) c.index_mut.result.now 0 (omega arith) in
    omega (arith, degree_small (tables_of c.self.inside) c.self.invariant.0 (at (rotation_of (tables_of c.self.inside)) c.args.after_a.0) va, c.self.invariant.0.edges_few)

pub overflow_add-index_mut-2 : goal.overflow_add-index_mut-2
unfolding at
overflow_add-index_mut-2 c =
    let eq : rotation_of (tables_of c.self.inside) ≡ c.args.self.now.graph = ap (λ (z : MapValue). z.graph) c.self.view_is in
    let la : c.args.after_a.0 < 2 * length c.self.inside.ends.items = subst (λ (g : Embedded). c.args.after_a.0 < darts g) (sym eq) c.requires.a in
    let lb : c.args.after_b.0 < 2 * length c.self.inside.ends.items = subst (λ (g : Embedded). c.args.after_b.0 < darts g) (sym eq) c.requires.b in
    let differ : at (rotation_of (tables_of c.self.inside)) c.args.after_a.0 ≢ at (rotation_of (tables_of c.self.inside)) c.args.after_b.0 = subst (λ (g : Embedded). at g c.args.after_a.0 ≢ at g c.args.after_b.0) (sym eq) c.requires.apart in
    let ta : c.vertex_at-tail.result ≡ at (rotation_of (tables_of c.self.inside)) c.args.after_a.0 = c.vertex_at-tail.ensures ∙ ap (λ (z : List (ℕ × ℕ)). at (record { vertices = 0; ends = z; orders = [] }) c.args.after_a.0) c.deref.ensures.value in
    let tb : c.vertex_at-head.result ≡ at (rotation_of (tables_of c.self.inside)) c.args.after_b.0 = c.vertex_at-head.ensures ∙ ap (λ (z : List (ℕ × ℕ)). at (record { vertices = 0; ends = z; orders = [] }) c.args.after_b.0) c.deref-2.ensures.value in
    let va : at (rotation_of (tables_of c.self.inside)) c.args.after_a.0 < c.self.inside.vertices = at_below (rotation_of (tables_of c.self.inside)) c.self.invariant.0.rotation.ends c.args.after_a.0 la in
    let vb : at (rotation_of (tables_of c.self.inside)) c.args.after_b.0 < c.self.inside.vertices = at_below (rotation_of (tables_of c.self.inside)) c.self.invariant.0.rotation.ends c.args.after_b.0 lb in
    let m : length c.self.inside.degree.items ≡ c.self.inside.vertices = c.self.invariant.0.degrees in
    let ra : c.index_mut.result.now ≡ get_or c.self.inside.degree.items (at (rotation_of (tables_of c.self.inside)) c.args.after_a.0) 0 = c.index_mut.ensures.value ∙ ap (λ z. get_or c.self.inside.degree.items z c.index_mut.result.now) ta ∙ get_or_default c.self.inside.degree.items (at (rotation_of (tables_of c.self.inside)) c.args.after_a.0) c.index_mut.result.now 0 (omega arith) in
    let da : set c.self.inside.degree.items c.vertex_at-tail.result (c.index_mut.result.now + 1) ≡ bumped_at c.self.inside.degree.items (at (rotation_of (tables_of c.self.inside)) c.args.after_a.0) = ap (λ z. set c.self.inside.degree.items z (c.index_mut.result.now + 1)) ta ∙ ap (λ z. set c.self.inside.degree.items (at (rotation_of (tables_of c.self.inside)) c.args.after_a.0) (z + 1)) ra in
    let long : length (bumped_at c.self.inside.degree.items (at (rotation_of (tables_of c.self.inside)) c.args.after_a.0)) ≡ length c.self.inside.degree.items = length-set c.self.inside.degree.items (at (rotation_of (tables_of c.self.inside)) c.args.after_a.0) (get_or c.self.inside.degree.items (at (rotation_of (tables_of c.self.inside)) c.args.after_a.0) 0 + 1) in
    let rb : c.index_mut-2.result.now ≡ get_or (bumped_at c.self.inside.degree.items (at (rotation_of (tables_of c.self.inside)) c.args.after_a.0)) (at (rotation_of (tables_of c.self.inside)) c.args.after_b.0) 0 =
    c.index_mut-2.ensures.value ∙ ap (λ (z : List ℕ). get_or z c.vertex_at-head.result c.index_mut-2.result.now) da ∙ ap (λ z. get_or (bumped_at c.self.inside.degree.items (at (rotation_of (tables_of c.self.inside)) c.args.after_a.0)) z c.index_mut-2.result.now) tb
    ∙ get_or_default (bumped_at c.self.inside.degree.items (at (rotation_of (tables_of c.self.inside)) c.args.after_a.0)) (at (rotation_of (tables_of c.self.inside)) c.args.after_b.0) c.index_mut-2.result.now 0 (omega arith) in
    let db : set (set c.self.inside.degree.items c.vertex_at-tail.result (c.index_mut.result.now + 1)) c.vertex_at-head.result (c.index_mut-2.result.now + 1) ≡ bumped_at (bumped_at c.self.inside.degree.items (at (rotation_of (tables_of c.self.inside)) c.args.after_a.0)) (at (rotation_of (tables_of c.self.inside)) c.args.after_b.0) =
    ap (λ (z : List ℕ). set z c.vertex_at-head.result (c.index_mut-2.result.now + 1)) da ∙ ap (λ z. set (bumped_at c.self.inside.degree.items (at (rotation_of (tables_of c.self.inside)) c.args.after_a.0)) z (c.index_mut-2.result.now + 1)) tb ∙ ap (λ z. set (bumped_at c.self.inside.degree.items (at (rotation_of (tables_of c.self.inside)) c.args.after_a.0)) (at (rotation_of (tables_of c.self.inside)) c.args.after_b.0) (z + 1)) rb in
    omega (arith, bump_other c.self.inside.degree.items (at (rotation_of (tables_of c.self.inside)) c.args.after_a.0) (at (rotation_of (tables_of c.self.inside)) c.args.after_b.0) (λ e. differ (sym e)), degree_small (tables_of c.self.inside) c.self.invariant.0 (at (rotation_of (tables_of c.self.inside)) c.args.after_b.0) vb, c.self.invariant.0.edges_few)

pub returns-clause-graph : goal.returns-clause-graph
unfolding at
returns-clause-graph c =
    let eq : rotation_of (tables_of c.self.inside) ≡ c.args.self.now.graph = ap (λ (z : MapValue). z.graph) c.self.view_is in
    let la : c.args.after_a.0 < 2 * length c.self.inside.ends.items = subst (λ (g : Embedded). c.args.after_a.0 < darts g) (sym eq) c.requires.a in
    let lb : c.args.after_b.0 < 2 * length c.self.inside.ends.items = subst (λ (g : Embedded). c.args.after_b.0 < darts g) (sym eq) c.requires.b in
    let differ : at (rotation_of (tables_of c.self.inside)) c.args.after_a.0 ≢ at (rotation_of (tables_of c.self.inside)) c.args.after_b.0 = subst (λ (g : Embedded). at g c.args.after_a.0 ≢ at g c.args.after_b.0) (sym eq) c.requires.apart in
    let ta : c.vertex_at-tail.result ≡ at (rotation_of (tables_of c.self.inside)) c.args.after_a.0 = c.vertex_at-tail.ensures ∙ ap (λ (z : List (ℕ × ℕ)). at (record { vertices = 0; ends = z; orders = [] }) c.args.after_a.0) c.deref.ensures.value in
    let tb : c.vertex_at-head.result ≡ at (rotation_of (tables_of c.self.inside)) c.args.after_b.0 = c.vertex_at-head.ensures ∙ ap (λ (z : List (ℕ × ℕ)). at (record { vertices = 0; ends = z; orders = [] }) c.args.after_b.0) c.deref-2.ensures.value in
    let va : at (rotation_of (tables_of c.self.inside)) c.args.after_a.0 < c.self.inside.vertices = at_below (rotation_of (tables_of c.self.inside)) c.self.invariant.0.rotation.ends c.args.after_a.0 la in
    let vb : at (rotation_of (tables_of c.self.inside)) c.args.after_b.0 < c.self.inside.vertices = at_below (rotation_of (tables_of c.self.inside)) c.self.invariant.0.rotation.ends c.args.after_b.0 lb in
    let m : length c.self.inside.degree.items ≡ c.self.inside.vertices = c.self.invariant.0.degrees in
    let ra : c.index_mut.result.now ≡ get_or c.self.inside.degree.items (at (rotation_of (tables_of c.self.inside)) c.args.after_a.0) 0 = c.index_mut.ensures.value ∙ ap (λ z. get_or c.self.inside.degree.items z c.index_mut.result.now) ta ∙ get_or_default c.self.inside.degree.items (at (rotation_of (tables_of c.self.inside)) c.args.after_a.0) c.index_mut.result.now 0 (omega arith) in
    let da : set c.self.inside.degree.items c.vertex_at-tail.result (c.index_mut.result.now + 1) ≡ bumped_at c.self.inside.degree.items (at (rotation_of (tables_of c.self.inside)) c.args.after_a.0) = ap (λ z. set c.self.inside.degree.items z (c.index_mut.result.now + 1)) ta ∙ ap (λ z. set c.self.inside.degree.items (at (rotation_of (tables_of c.self.inside)) c.args.after_a.0) (z + 1)) ra in
    let long : length (bumped_at c.self.inside.degree.items (at (rotation_of (tables_of c.self.inside)) c.args.after_a.0)) ≡ length c.self.inside.degree.items = length-set c.self.inside.degree.items (at (rotation_of (tables_of c.self.inside)) c.args.after_a.0) (get_or c.self.inside.degree.items (at (rotation_of (tables_of c.self.inside)) c.args.after_a.0) 0 + 1) in
    let rb : c.index_mut-2.result.now ≡ get_or (bumped_at c.self.inside.degree.items (at (rotation_of (tables_of c.self.inside)) c.args.after_a.0)) (at (rotation_of (tables_of c.self.inside)) c.args.after_b.0) 0 =
    c.index_mut-2.ensures.value ∙ ap (λ (z : List ℕ). get_or z c.vertex_at-head.result c.index_mut-2.result.now) da ∙ ap (λ z. get_or (bumped_at c.self.inside.degree.items (at (rotation_of (tables_of c.self.inside)) c.args.after_a.0)) z c.index_mut-2.result.now) tb
    ∙ get_or_default (bumped_at c.self.inside.degree.items (at (rotation_of (tables_of c.self.inside)) c.args.after_a.0)) (at (rotation_of (tables_of c.self.inside)) c.args.after_b.0) c.index_mut-2.result.now 0 (omega arith) in
    let db : set (set c.self.inside.degree.items c.vertex_at-tail.result (c.index_mut.result.now + 1)) c.vertex_at-head.result (c.index_mut-2.result.now + 1) ≡ bumped_at (bumped_at c.self.inside.degree.items (at (rotation_of (tables_of c.self.inside)) c.args.after_a.0)) (at (rotation_of (tables_of c.self.inside)) c.args.after_b.0) =
    ap (λ (z : List ℕ). set z c.vertex_at-head.result (c.index_mut-2.result.now + 1)) da ∙ ap (λ z. set (bumped_at c.self.inside.degree.items (at (rotation_of (tables_of c.self.inside)) c.args.after_a.0)) z (c.index_mut-2.result.now + 1)) tb ∙ ap (λ z. set (bumped_at c.self.inside.degree.items (at (rotation_of (tables_of c.self.inside)) c.args.after_a.0)) (at (rotation_of (tables_of c.self.inside)) c.args.after_b.0) (z + 1)) rb in
    let es : c.push_reserved.new.self.items ≡ ends_after (tables_of c.self.inside) c.self.invariant.0 c.args.after_a.0 c.args.after_b.0 la lb differ = c.push_reserved.ensures.items ∙ ap (λ z. c.self.inside.ends.items ++ (z, c.vertex_at-head.result) ∷ []) ta ∙ ap (λ z. c.self.inside.ends.items ++ (at (rotation_of (tables_of c.self.inside)) c.args.after_a.0, z) ∷ []) tb in
    let same : tables c.self.inside.vertices c.push_reserved.new.self.items c.insert.new.self.first (set (set c.self.inside.degree.items c.vertex_at-tail.result (c.index_mut.result.now + 1)) c.vertex_at-head.result (c.index_mut-2.result.now + 1)) c.insert.new.self.cw c.insert.new.self.ccw ≡ tables_after (tables_of c.self.inside) c.self.invariant.0 c.args.after_a.0 c.args.after_b.0 la lb differ =
    ap (λ (z : List (ℕ × ℕ)). tables c.self.inside.vertices z c.insert.new.self.first (set (set c.self.inside.degree.items c.vertex_at-tail.result (c.index_mut.result.now + 1)) c.vertex_at-head.result (c.index_mut-2.result.now + 1)) c.insert.new.self.cw c.insert.new.self.ccw) es
    ∙ ap (λ (z : List ℕ). tables c.self.inside.vertices (ends_after (tables_of c.self.inside) c.self.invariant.0 c.args.after_a.0 c.args.after_b.0 la lb differ) z (set (set c.self.inside.degree.items c.vertex_at-tail.result (c.index_mut.result.now + 1)) c.vertex_at-head.result (c.index_mut-2.result.now + 1)) c.insert.new.self.cw c.insert.new.self.ccw) c.insert.ensures.first
    ∙ ap (λ (z : List ℕ). tables c.self.inside.vertices (ends_after (tables_of c.self.inside) c.self.invariant.0 c.args.after_a.0 c.args.after_b.0 la lb differ) c.self.inside.links.first z c.insert.new.self.cw c.insert.new.self.ccw) db
    ∙ ap (λ (z : List ℕ). tables c.self.inside.vertices (ends_after (tables_of c.self.inside) c.self.invariant.0 c.args.after_a.0 c.args.after_b.0 la lb differ) c.self.inside.links.first (degree_after (tables_of c.self.inside) c.self.invariant.0 c.args.after_a.0 c.args.after_b.0 la lb differ) z c.insert.new.self.ccw) c.insert.ensures.cw
    ∙ ap (λ (z : List ℕ). tables c.self.inside.vertices (ends_after (tables_of c.self.inside) c.self.invariant.0 c.args.after_a.0 c.args.after_b.0 la lb differ) c.self.inside.links.first (degree_after (tables_of c.self.inside) c.self.invariant.0 c.args.after_a.0 c.args.after_b.0 la lb differ) (cw_after (tables_of c.self.inside) c.self.invariant.0 c.args.after_a.0 c.args.after_b.0 la lb differ) z) c.insert.ensures.ccw in
    ap rotation_of same ∙ rotation_after (tables_of c.self.inside) c.self.invariant.0 c.args.after_a.0 c.args.after_b.0 la lb differ ∙ ap (λ (g : Embedded). insert g c.args.after_a.0 c.args.after_b.0) eq

pub invariant_of-self : goal.invariant_of-self
unfolding at
invariant_of-self c =
    let eq : rotation_of (tables_of c.self.inside) ≡ c.args.self.now.graph = ap (λ (z : MapValue). z.graph) c.self.view_is in
    let la : c.args.after_a.0 < 2 * length c.self.inside.ends.items = subst (λ (g : Embedded). c.args.after_a.0 < darts g) (sym eq) c.requires.a in
    let lb : c.args.after_b.0 < 2 * length c.self.inside.ends.items = subst (λ (g : Embedded). c.args.after_b.0 < darts g) (sym eq) c.requires.b in
    let differ : at (rotation_of (tables_of c.self.inside)) c.args.after_a.0 ≢ at (rotation_of (tables_of c.self.inside)) c.args.after_b.0 = subst (λ (g : Embedded). at g c.args.after_a.0 ≢ at g c.args.after_b.0) (sym eq) c.requires.apart in
    let ta : c.vertex_at-tail.result ≡ at (rotation_of (tables_of c.self.inside)) c.args.after_a.0 = c.vertex_at-tail.ensures ∙ ap (λ (z : List (ℕ × ℕ)). at (record { vertices = 0; ends = z; orders = [] }) c.args.after_a.0) c.deref.ensures.value in
    let tb : c.vertex_at-head.result ≡ at (rotation_of (tables_of c.self.inside)) c.args.after_b.0 = c.vertex_at-head.ensures ∙ ap (λ (z : List (ℕ × ℕ)). at (record { vertices = 0; ends = z; orders = [] }) c.args.after_b.0) c.deref-2.ensures.value in
    let va : at (rotation_of (tables_of c.self.inside)) c.args.after_a.0 < c.self.inside.vertices = at_below (rotation_of (tables_of c.self.inside)) c.self.invariant.0.rotation.ends c.args.after_a.0 la in
    let vb : at (rotation_of (tables_of c.self.inside)) c.args.after_b.0 < c.self.inside.vertices = at_below (rotation_of (tables_of c.self.inside)) c.self.invariant.0.rotation.ends c.args.after_b.0 lb in
    let m : length c.self.inside.degree.items ≡ c.self.inside.vertices = c.self.invariant.0.degrees in
    let ra : c.index_mut.result.now ≡ get_or c.self.inside.degree.items (at (rotation_of (tables_of c.self.inside)) c.args.after_a.0) 0 = c.index_mut.ensures.value ∙ ap (λ z. get_or c.self.inside.degree.items z c.index_mut.result.now) ta ∙ get_or_default c.self.inside.degree.items (at (rotation_of (tables_of c.self.inside)) c.args.after_a.0) c.index_mut.result.now 0 (omega arith) in
    let da : set c.self.inside.degree.items c.vertex_at-tail.result (c.index_mut.result.now + 1) ≡ bumped_at c.self.inside.degree.items (at (rotation_of (tables_of c.self.inside)) c.args.after_a.0) = ap (λ z. set c.self.inside.degree.items z (c.index_mut.result.now + 1)) ta ∙ ap (λ z. set c.self.inside.degree.items (at (rotation_of (tables_of c.self.inside)) c.args.after_a.0) (z + 1)) ra in
    let long : length (bumped_at c.self.inside.degree.items (at (rotation_of (tables_of c.self.inside)) c.args.after_a.0)) ≡ length c.self.inside.degree.items = length-set c.self.inside.degree.items (at (rotation_of (tables_of c.self.inside)) c.args.after_a.0) (get_or c.self.inside.degree.items (at (rotation_of (tables_of c.self.inside)) c.args.after_a.0) 0 + 1) in
    let rb : c.index_mut-2.result.now ≡ get_or (bumped_at c.self.inside.degree.items (at (rotation_of (tables_of c.self.inside)) c.args.after_a.0)) (at (rotation_of (tables_of c.self.inside)) c.args.after_b.0) 0 =
    c.index_mut-2.ensures.value ∙ ap (λ (z : List ℕ). get_or z c.vertex_at-head.result c.index_mut-2.result.now) da ∙ ap (λ z. get_or (bumped_at c.self.inside.degree.items (at (rotation_of (tables_of c.self.inside)) c.args.after_a.0)) z c.index_mut-2.result.now) tb
    ∙ get_or_default (bumped_at c.self.inside.degree.items (at (rotation_of (tables_of c.self.inside)) c.args.after_a.0)) (at (rotation_of (tables_of c.self.inside)) c.args.after_b.0) c.index_mut-2.result.now 0 (omega arith) in
    let db : set (set c.self.inside.degree.items c.vertex_at-tail.result (c.index_mut.result.now + 1)) c.vertex_at-head.result (c.index_mut-2.result.now + 1) ≡ bumped_at (bumped_at c.self.inside.degree.items (at (rotation_of (tables_of c.self.inside)) c.args.after_a.0)) (at (rotation_of (tables_of c.self.inside)) c.args.after_b.0) =
    ap (λ (z : List ℕ). set z c.vertex_at-head.result (c.index_mut-2.result.now + 1)) da ∙ ap (λ z. set (bumped_at c.self.inside.degree.items (at (rotation_of (tables_of c.self.inside)) c.args.after_a.0)) z (c.index_mut-2.result.now + 1)) tb ∙ ap (λ z. set (bumped_at c.self.inside.degree.items (at (rotation_of (tables_of c.self.inside)) c.args.after_a.0)) (at (rotation_of (tables_of c.self.inside)) c.args.after_b.0) (z + 1)) rb in
    let es : c.push_reserved.new.self.items ≡ ends_after (tables_of c.self.inside) c.self.invariant.0 c.args.after_a.0 c.args.after_b.0 la lb differ = c.push_reserved.ensures.items ∙ ap (λ z. c.self.inside.ends.items ++ (z, c.vertex_at-head.result) ∷ []) ta ∙ ap (λ z. c.self.inside.ends.items ++ (at (rotation_of (tables_of c.self.inside)) c.args.after_a.0, z) ∷ []) tb in
    let same : tables c.self.inside.vertices c.push_reserved.new.self.items c.insert.new.self.first (set (set c.self.inside.degree.items c.vertex_at-tail.result (c.index_mut.result.now + 1)) c.vertex_at-head.result (c.index_mut-2.result.now + 1)) c.insert.new.self.cw c.insert.new.self.ccw ≡ tables_after (tables_of c.self.inside) c.self.invariant.0 c.args.after_a.0 c.args.after_b.0 la lb differ =
    ap (λ (z : List (ℕ × ℕ)). tables c.self.inside.vertices z c.insert.new.self.first (set (set c.self.inside.degree.items c.vertex_at-tail.result (c.index_mut.result.now + 1)) c.vertex_at-head.result (c.index_mut-2.result.now + 1)) c.insert.new.self.cw c.insert.new.self.ccw) es
    ∙ ap (λ (z : List ℕ). tables c.self.inside.vertices (ends_after (tables_of c.self.inside) c.self.invariant.0 c.args.after_a.0 c.args.after_b.0 la lb differ) z (set (set c.self.inside.degree.items c.vertex_at-tail.result (c.index_mut.result.now + 1)) c.vertex_at-head.result (c.index_mut-2.result.now + 1)) c.insert.new.self.cw c.insert.new.self.ccw) c.insert.ensures.first
    ∙ ap (λ (z : List ℕ). tables c.self.inside.vertices (ends_after (tables_of c.self.inside) c.self.invariant.0 c.args.after_a.0 c.args.after_b.0 la lb differ) c.self.inside.links.first z c.insert.new.self.cw c.insert.new.self.ccw) db
    ∙ ap (λ (z : List ℕ). tables c.self.inside.vertices (ends_after (tables_of c.self.inside) c.self.invariant.0 c.args.after_a.0 c.args.after_b.0 la lb differ) c.self.inside.links.first (degree_after (tables_of c.self.inside) c.self.invariant.0 c.args.after_a.0 c.args.after_b.0 la lb differ) z c.insert.new.self.ccw) c.insert.ensures.cw
    ∙ ap (λ (z : List ℕ). tables c.self.inside.vertices (ends_after (tables_of c.self.inside) c.self.invariant.0 c.args.after_a.0 c.args.after_b.0 la lb differ) c.self.inside.links.first (degree_after (tables_of c.self.inside) c.self.invariant.0 c.args.after_a.0 c.args.after_b.0 la lb differ) (cw_after (tables_of c.self.inside) c.self.invariant.0 c.args.after_a.0 c.args.after_b.0 la lb differ) z) c.insert.ensures.ccw in
    let some : 0 < c.self.inside.spare = elim (cases_lt 0 c.self.inside.spare) [ inl l ↦ l | inr l ↦ absurd (let z : c.self.inside.spare ≡ c.args.self.now.spare = ap (λ (z : MapValue). z.spare) c.self.view_is in omega (arith, c.requires.spare)) ] in
    let few : HasRoom c.self.inside.vertices (length c.self.inside.ends.items) c.self.inside.spare c.self.inside.ends.cap c.self.inside.degree.cap c.self.inside.links = c.self.invariant.1 in
    let longer : length c.insert.new.self.cw ≡ length c.self.inside.links.cw + 2 = ap (λ (z : List ℕ). length z) c.insert.ensures.cw ∙ length-cw_after (tables_of c.self.inside) c.self.invariant.0 c.args.after_a.0 c.args.after_b.0 la lb differ in (
      subst IsMap (sym same) (map_after (tables_of c.self.inside) c.self.invariant.0 c.args.after_a.0 c.args.after_b.0 la lb differ (omega (arith, few.edges_few))),
      room_inserted few some (ap (λ (z : List (ℕ × ℕ)). length z) es ∙ length-ends_after (tables_of c.self.inside) c.self.invariant.0 c.args.after_a.0 c.args.after_b.0 la lb differ) c.push_reserved.ensures.capacity refl longer (ap (λ (z : List ℕ). length z) c.insert.ensures.first) c.insert.ensures.rooms,
    )
