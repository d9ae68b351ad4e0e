use Rattle.std.proofs.Common.{◌≡◌, ℕ, ◌*◌, ◌<◌, length, get_or, slice_get, Some, inl, inr, refl, ap, ◌∙◌, sym, subst, arith}
use Rattle.std.proofs.lemmas.List.{get_or_default}
use Rattle.st_map.specs.Embedded.{Embedded, MapValue, order, at, darts}
use Rattle.st_map.specs.Tables.{rotation_of}
use Rattle.std.proofs.lemmas.Bool.{cases_lt}
use Rattle.st_map.specs.Orders.{IsEdgeAt}
use Rattle.st_map.proofs.MapTables.{tables_of}
use Rattle.st_map.proofs.MapLemmas.{degree_is, first_is, first_within, no_edge, some_edge}
use Rattle.st_map.proofs.map.Map.at.Goals as goal

pub returns-then-index-eq0-clause-first : goal.returns-then-index-eq0-clause-first
returns-then-index-eq0-clause-first c =
    let eq : rotation_of (tables_of c.self.inside) ≡ c.args.self.now.graph = ap (λ (z : MapValue). z.graph) c.self.view_is in
    let nv : c.self.inside.vertices ≡ c.args.self.now.graph.vertices = ap (λ (z : Embedded). z.vertices) eq in
    let lv : c.args.v.0 < c.self.inside.vertices = omega (arith, c.requires) in
    let d : c.index.result.now ≡ get_or c.self.inside.degree.items c.args.v.0 0 =
    c.index.ensures ∙ get_or_default c.self.inside.degree.items c.args.v.0 c.index.result.now 0 (omega (arith, c.self.invariant.0.degrees)) in
    let zero : get_or c.self.inside.degree.items c.args.v.0 0 ≡ 0 = sym d ∙ c.if-index-eq0.true in
    sym (degree_is (tables_of c.self.inside) c.self.invariant.0 c.args.v.0 lv ∙ ap (λ (g : Embedded). length (order g c.args.v.0)) eq) ∙ zero

pub returns-then-index-eq0-clause-none : goal.returns-then-index-eq0-clause-none
returns-then-index-eq0-clause-none c =
    let eq : rotation_of (tables_of c.self.inside) ≡ c.args.self.now.graph = ap (λ (z : MapValue). z.graph) c.self.view_is in
    let nv : c.self.inside.vertices ≡ c.args.self.now.graph.vertices = ap (λ (z : Embedded). z.vertices) eq in
    let lv : c.args.v.0 < c.self.inside.vertices = omega (arith, c.requires) in
    let d : c.index.result.now ≡ get_or c.self.inside.degree.items c.args.v.0 0 =
    c.index.ensures ∙ get_or_default c.self.inside.degree.items c.args.v.0 c.index.result.now 0 (omega (arith, c.self.invariant.0.degrees)) in
    let zero : get_or c.self.inside.degree.items c.args.v.0 0 ≡ 0 = sym d ∙ c.if-index-eq0.true in
    (λ _. subst (λ (g : Embedded). (e : ℕ) → IsEdgeAt g.ends c.args.v.0 e → ⊥) eq (no_edge (tables_of c.self.inside) c.self.invariant.0 c.args.v.0 zero), λ _. refl)

pub returns-clause-first : goal.returns-clause-first
returns-clause-first c =
    let eq : rotation_of (tables_of c.self.inside) ≡ c.args.self.now.graph = ap (λ (z : MapValue). z.graph) c.self.view_is in
    let nv : c.self.inside.vertices ≡ c.args.self.now.graph.vertices = ap (λ (z : Embedded). z.vertices) eq in
    let lv : c.args.v.0 < c.self.inside.vertices = omega (arith, c.requires) in
    let d : c.index.result.now ≡ get_or c.self.inside.degree.items c.args.v.0 0 =
    c.index.ensures ∙ get_or_default c.self.inside.degree.items c.args.v.0 c.index.result.now 0 (omega (arith, c.self.invariant.0.degrees)) in
    let some : 0 < get_or c.self.inside.degree.items c.args.v.0 0 =
    elim (cases_lt 0 (get_or c.self.inside.degree.items c.args.v.0 0)) [ inl l ↦ l | inr z ↦ absurd (c.if-index-eq0.false (d ∙ omega arith)) ] in
    let f : c.first.result ≡ get_or c.self.inside.links.first c.args.v.0 0 =
    c.first.ensures in
    sym (ap (λ (g : Embedded). slice_get (order g c.args.v.0) 0) eq) ∙ first_is (tables_of c.self.inside) c.self.invariant.0 c.args.v.0 lv some ∙ ap (λ z. Some z) (sym f)

pub returns-clause-none : goal.returns-clause-none
returns-clause-none c =
    let eq : rotation_of (tables_of c.self.inside) ≡ c.args.self.now.graph = ap (λ (z : MapValue). z.graph) c.self.view_is in
    let nv : c.self.inside.vertices ≡ c.args.self.now.graph.vertices = ap (λ (z : Embedded). z.vertices) eq in
    let lv : c.args.v.0 < c.self.inside.vertices = omega (arith, c.requires) in
    let d : c.index.result.now ≡ get_or c.self.inside.degree.items c.args.v.0 0 =
    c.index.ensures ∙ get_or_default c.self.inside.degree.items c.args.v.0 c.index.result.now 0 (omega (arith, c.self.invariant.0.degrees)) in
    let some : 0 < get_or c.self.inside.degree.items c.args.v.0 0 =
    elim (cases_lt 0 (get_or c.self.inside.degree.items c.args.v.0 0)) [ inl l ↦ l | inr z ↦ absurd (c.if-index-eq0.false (d ∙ omega arith)) ] in
    let f : c.first.result ≡ get_or c.self.inside.links.first c.args.v.0 0 =
    c.first.ensures in (
      λ q. cc,
      λ none.
          let e : (e : ℕ) × IsEdgeAt c.args.self.now.graph.ends c.args.v.0 e =
          subst (λ (g : Embedded). (e : ℕ) × IsEdgeAt g.ends c.args.v.0 e) eq (some_edge (tables_of c.self.inside) c.self.invariant.0 c.args.v.0 lv some) in
          absurd (none e.0 e.1),
    )

pub returns-clause-within : goal.returns-clause-within
returns-clause-within c =
    let eq : rotation_of (tables_of c.self.inside) ≡ c.args.self.now.graph = ap (λ (z : MapValue). z.graph) c.self.view_is in
    let nv : c.self.inside.vertices ≡ c.args.self.now.graph.vertices = ap (λ (z : Embedded). z.vertices) eq in
    let lv : c.args.v.0 < c.self.inside.vertices = omega (arith, c.requires) in
    let d : c.index.result.now ≡ get_or c.self.inside.degree.items c.args.v.0 0 =
    c.index.ensures ∙ get_or_default c.self.inside.degree.items c.args.v.0 c.index.result.now 0 (omega (arith, c.self.invariant.0.degrees)) in
    let some : 0 < get_or c.self.inside.degree.items c.args.v.0 0 =
    elim (cases_lt 0 (get_or c.self.inside.degree.items c.args.v.0 0)) [ inl l ↦ l | inr z ↦ absurd (c.if-index-eq0.false (d ∙ omega arith)) ] in
    let f : c.first.result ≡ get_or c.self.inside.links.first c.args.v.0 0 =
    c.first.ensures in
    subst (λ (g : Embedded). (c.first.result < darts g) × (at g c.first.result ≡ c.args.v.0)) eq
    (let w : (get_or c.self.inside.links.first c.args.v.0 0 < 2 * length c.self.inside.ends.items) × (at (rotation_of (tables_of c.self.inside)) (get_or c.self.inside.links.first c.args.v.0 0) ≡ c.args.v.0) =
    first_within (tables_of c.self.inside) c.self.invariant.0 c.args.v.0 lv some in
    (omega (arith, w.0), ap (at (rotation_of (tables_of c.self.inside))) f ∙ w.1))
