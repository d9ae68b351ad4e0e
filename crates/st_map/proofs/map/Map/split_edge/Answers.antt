use Rattle.std.proofs.Common.{◌≡◌, ◌+◌, ◌*◌, ◌<◌, ℕ, inl, inr, suc, length, get_or, List, [], ◌∷◌, ◌++◌, map, set, sym, ap, ◌∙◌, subst, arith}
use Rattle.std.proofs.lemmas.List.{get_or_default, length-map, length_push}
use Rattle.std.proofs.lemmas.Bool.{cases_lt}
use Rattle.st_ids.specs.Graph.{tail_of, head_of}
use Rattle.st_map.specs.Embedded.{Embedded, MapValue, edges}
use Rattle.st_map.specs.Links.{HasRoom, HasRoomForMore}
use Rattle.st_map.specs.Split.{split}
use Rattle.st_map.specs.Tables.{AreLinksSplit, IsMap, rotation_of, renumbered, tables}
use Rattle.st_map.proofs.MapTables.{tables_of}
use Rattle.st_map.proofs.SplitTables.{ends_after, first_after, tables_after, map_after, rotation_after, room_after, length-ends_after}
use Rattle.st_map.proofs.map.Map.split_edge.Goals as goal

pub split-requires-clause-few : goal.split-requires-clause-few
split-requires-clause-few c =
    let some : 0 < c.self.inside.spare = elim (cases_lt 0 c.self.inside.spare) [ inl l ↦ l | inr l ↦ absurd (let z : c.self.inside.spare ≡ c.args.self.now.spare = ap (λ (z : MapValue). z.spare) c.self.view_is in omega (arith, c.requires.spare)) ] in
    omega (arith, c.self.invariant.0.clockwise.size, c.self.invariant.1.edges_few)

pub split-requires-clause-edge : goal.split-requires-clause-edge
split-requires-clause-edge c =
    let eq : rotation_of (tables_of c.self.inside) ≡ c.args.self.now.graph = ap (λ (z : MapValue). z.graph) c.self.view_is in
    let le : c.args.e.0 < length c.self.inside.ends.items = subst (λ (g : Embedded). c.args.e.0 < edges g) (sym eq) c.requires.edge in
    omega (arith, c.self.invariant.0.clockwise.size)

pub split-requires-clause-room : goal.split-requires-clause-room
split-requires-clause-room c =
    let some : 0 < c.self.inside.spare = elim (cases_lt 0 c.self.inside.spare) [ inl l ↦ l | inr l ↦ absurd (let z : c.self.inside.spare ≡ c.args.self.now.spare = ap (λ (z : MapValue). z.spare) c.self.view_is in omega (arith, c.requires.spare)) ] in
    let room : HasRoomForMore c.self.inside.links c.self.inside.spare = c.self.invariant.1.room_links some in
    record {
      ends = omega (arith, room.ends);
      edges = omega (arith, room.edges);
      vertices = omega (arith, room.vertices);
    }

pub returns-clause-graph : goal.returns-clause-graph
unfolding tail_of head_of
returns-clause-graph c =
    let eq : rotation_of (tables_of c.self.inside) ≡ c.args.self.now.graph = ap (λ (z : MapValue). z.graph) c.self.view_is in
    let le : c.args.e.0 < length c.self.inside.ends.items = subst (λ (g : Embedded). c.args.e.0 < edges g) (sym eq) c.requires.edge in
    let pair : c.index.result.now ≡ get_or c.self.inside.ends.items c.args.e.0 (0, 0) = c.index.ensures ∙ get_or_default c.self.inside.ends.items c.args.e.0 c.index.result.now (0, 0) le in
    let tail : c.index.result.now.0 ≡ tail_of c.self.inside.ends.items c.args.e.0 = ap (λ (p : ℕ × ℕ). p.0) pair in
    let head : c.index.result.now.1 ≡ head_of c.self.inside.ends.items c.args.e.0 = ap (λ (p : ℕ × ℕ). p.1) pair in
    let f : c.split.new.self.first ≡ (first_after (tables_of c.self.inside) c.self.invariant.0 c.args.e.0 le) = c.split.ensures.first ∙ ap (λ z. map (renumbered (2 * c.args.e.0 + 1) (suc z)) c.self.inside.links.first ++ z ∷ []) c.self.invariant.0.clockwise.size in
    let es : c.push_reserved-2.new.self.items ≡ (ends_after (tables_of c.self.inside) c.self.invariant.0 c.args.e.0 le) =
    c.push_reserved-2.ensures.items ∙ ap (λ z. set c.self.inside.ends.items c.args.e.0 (z, c.self.inside.vertices) ++ (c.self.inside.vertices, c.index.result.now.1) ∷ []) tail
    ∙ ap (λ z. set c.self.inside.ends.items c.args.e.0 (tail_of c.self.inside.ends.items c.args.e.0, c.self.inside.vertices) ++ (c.self.inside.vertices, z) ∷ []) head in
    let h : AreLinksSplit c.self.inside.links.cw (2 * c.args.e.0 + 1) c.split.new.self.cw = c.split.ensures.cw in
    let b : AreLinksSplit c.self.inside.links.ccw (2 * c.args.e.0 + 1) c.split.new.self.ccw = c.split.ensures.ccw in
    let v : c.self.inside.vertices + 1 ≡ suc c.self.inside.vertices = omega arith in
    let same : tables (c.self.inside.vertices + 1) c.push_reserved-2.new.self.items c.split.new.self.first c.push_reserved.new.self.items c.split.new.self.cw c.split.new.self.ccw ≡ tables_after (tables_of c.self.inside) c.self.invariant.0 c.args.e.0 le c.split.new.self.cw c.split.new.self.ccw =
    ap (λ (z : List (ℕ × ℕ)). tables (c.self.inside.vertices + 1) z c.split.new.self.first c.push_reserved.new.self.items c.split.new.self.cw c.split.new.self.ccw) es
    ∙ ap (λ (z : List ℕ). tables (c.self.inside.vertices + 1) (ends_after (tables_of c.self.inside) c.self.invariant.0 c.args.e.0 le) z c.push_reserved.new.self.items c.split.new.self.cw c.split.new.self.ccw) f
    ∙ ap (λ (z : List ℕ). tables (c.self.inside.vertices + 1) (ends_after (tables_of c.self.inside) c.self.invariant.0 c.args.e.0 le) (first_after (tables_of c.self.inside) c.self.invariant.0 c.args.e.0 le) z c.split.new.self.cw c.split.new.self.ccw) c.push_reserved.ensures.items
    ∙ ap (λ z. tables z (ends_after (tables_of c.self.inside) c.self.invariant.0 c.args.e.0 le) (first_after (tables_of c.self.inside) c.self.invariant.0 c.args.e.0 le) (c.self.inside.degree.items ++ 2 ∷ []) c.split.new.self.cw c.split.new.self.ccw) v in
    ap rotation_of same ∙ rotation_after (tables_of c.self.inside) c.self.invariant.0 c.args.e.0 le c.split.new.self.cw c.split.new.self.ccw h b ∙ ap (λ (g : Embedded). split g c.args.e.0) eq

pub invariant_of-self : goal.invariant_of-self
unfolding tail_of head_of
invariant_of-self c =
    let eq : rotation_of (tables_of c.self.inside) ≡ c.args.self.now.graph = ap (λ (z : MapValue). z.graph) c.self.view_is in
    let le : c.args.e.0 < length c.self.inside.ends.items = subst (λ (g : Embedded). c.args.e.0 < edges g) (sym eq) c.requires.edge in
    let some : 0 < c.self.inside.spare = elim (cases_lt 0 c.self.inside.spare) [ inl l ↦ l | inr l ↦ absurd (let z : c.self.inside.spare ≡ c.args.self.now.spare = ap (λ (z : MapValue). z.spare) c.self.view_is in omega (arith, c.requires.spare)) ] in
    let pair : c.index.result.now ≡ get_or c.self.inside.ends.items c.args.e.0 (0, 0) = c.index.ensures ∙ get_or_default c.self.inside.ends.items c.args.e.0 c.index.result.now (0, 0) le in
    let tail : c.index.result.now.0 ≡ tail_of c.self.inside.ends.items c.args.e.0 = ap (λ (p : ℕ × ℕ). p.0) pair in
    let head : c.index.result.now.1 ≡ head_of c.self.inside.ends.items c.args.e.0 = ap (λ (p : ℕ × ℕ). p.1) pair in
    let f : c.split.new.self.first ≡ (first_after (tables_of c.self.inside) c.self.invariant.0 c.args.e.0 le) = c.split.ensures.first ∙ ap (λ z. map (renumbered (2 * c.args.e.0 + 1) (suc z)) c.self.inside.links.first ++ z ∷ []) c.self.invariant.0.clockwise.size in
    let es : c.push_reserved-2.new.self.items ≡ (ends_after (tables_of c.self.inside) c.self.invariant.0 c.args.e.0 le) =
    c.push_reserved-2.ensures.items ∙ ap (λ z. set c.self.inside.ends.items c.args.e.0 (z, c.self.inside.vertices) ++ (c.self.inside.vertices, c.index.result.now.1) ∷ []) tail
    ∙ ap (λ z. set c.self.inside.ends.items c.args.e.0 (tail_of c.self.inside.ends.items c.args.e.0, c.self.inside.vertices) ++ (c.self.inside.vertices, z) ∷ []) head in
    let h : AreLinksSplit c.self.inside.links.cw (2 * c.args.e.0 + 1) c.split.new.self.cw = c.split.ensures.cw in
    let b : AreLinksSplit c.self.inside.links.ccw (2 * c.args.e.0 + 1) c.split.new.self.ccw = c.split.ensures.ccw in
    let v : c.self.inside.vertices + 1 ≡ suc c.self.inside.vertices = omega arith in
    let same : tables (c.self.inside.vertices + 1) c.push_reserved-2.new.self.items c.split.new.self.first c.push_reserved.new.self.items c.split.new.self.cw c.split.new.self.ccw ≡ tables_after (tables_of c.self.inside) c.self.invariant.0 c.args.e.0 le c.split.new.self.cw c.split.new.self.ccw =
    ap (λ (z : List (ℕ × ℕ)). tables (c.self.inside.vertices + 1) z c.split.new.self.first c.push_reserved.new.self.items c.split.new.self.cw c.split.new.self.ccw) es
    ∙ ap (λ (z : List ℕ). tables (c.self.inside.vertices + 1) (ends_after (tables_of c.self.inside) c.self.invariant.0 c.args.e.0 le) z c.push_reserved.new.self.items c.split.new.self.cw c.split.new.self.ccw) f
    ∙ ap (λ (z : List ℕ). tables (c.self.inside.vertices + 1) (ends_after (tables_of c.self.inside) c.self.invariant.0 c.args.e.0 le) (first_after (tables_of c.self.inside) c.self.invariant.0 c.args.e.0 le) z c.split.new.self.cw c.split.new.self.ccw) c.push_reserved.ensures.items
    ∙ ap (λ z. tables z (ends_after (tables_of c.self.inside) c.self.invariant.0 c.args.e.0 le) (first_after (tables_of c.self.inside) c.self.invariant.0 c.args.e.0 le) (c.self.inside.degree.items ++ 2 ∷ []) c.split.new.self.cw c.split.new.self.ccw) v in
    let few : HasRoom c.self.inside.vertices (length c.self.inside.ends.items) c.self.inside.spare c.self.inside.ends.cap c.self.inside.degree.cap c.self.inside.links = c.self.invariant.1 in
    let long : length c.push_reserved-2.new.self.items ≡ suc (length c.self.inside.ends.items) = ap (λ (z : List (ℕ × ℕ)). length z) es ∙ length-ends_after (tables_of c.self.inside) c.self.invariant.0 c.args.e.0 le in
    let first_long : length c.split.new.self.first ≡ length c.self.inside.links.first + 1 = ap (λ (z : List ℕ). length z) f ∙ length_push (map (renumbered (2 * c.args.e.0 + 1) (suc (2 * length c.self.inside.ends.items))) c.self.inside.links.first) (2 * length c.self.inside.ends.items) ∙ ap (λ z. z + 1) (length-map c.self.inside.links.first (renumbered (2 * c.args.e.0 + 1) (suc (2 * length c.self.inside.ends.items)))) in
    let all : IsMap (tables_after (tables_of c.self.inside) c.self.invariant.0 c.args.e.0 le c.split.new.self.cw c.split.new.self.ccw) =
    map_after (tables_of c.self.inside) c.self.invariant.0 c.args.e.0 le c.split.new.self.cw c.split.new.self.ccw h b (omega (arith, few.vertices_few)) (omega (arith, few.edges_few)) in (
      subst IsMap (sym same) all,
      room_after few some long c.push_reserved-2.ensures.capacity c.push_reserved.ensures.capacity (omega (arith, h.size)) first_long c.split.ensures.rooms,
    )
