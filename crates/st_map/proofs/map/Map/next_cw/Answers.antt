use Rattle.std.proofs.Common.{◌≡◌, ◌*◌, ◌<◌, length, ap, ◌∙◌, subst, arith}
use Rattle.st_map.specs.Embedded.{Embedded, MapValue, at, next, darts}
use Rattle.st_map.specs.Tables.{rotation_of}
use Rattle.st_map.proofs.MapTables.{tables_of}
use Rattle.st_map.proofs.MapLemmas.{next_below, at_next}
use Rattle.st_map.proofs.map.Map.next_cw.Goals as goal

pub returns-clause-within : goal.returns-clause-within
returns-clause-within c =
    let eq : rotation_of (tables_of c.self.inside) ≡ c.args.self.now.graph = ap (λ (z : MapValue). z.graph) c.self.view_is in
    let nd : darts (rotation_of (tables_of c.self.inside)) ≡ darts c.args.self.now.graph = ap (λ (z : Embedded). darts z) eq in
    let ld : c.args.d.0 < 2 * length c.self.inside.ends.items = omega (arith, c.requires) in
    let r : c.cw.result ≡ next (rotation_of (tables_of c.self.inside)) c.args.d.0 =
    c.cw.ensures
    ∙ c.self.invariant.0.clockwise.each c.args.d.0 ld in
    omega (arith, next_below (tables_of c.self.inside) c.self.invariant.0 c.args.d.0 ld)

pub returns-clause-vertex : goal.returns-clause-vertex
returns-clause-vertex c =
    let eq : rotation_of (tables_of c.self.inside) ≡ c.args.self.now.graph = ap (λ (z : MapValue). z.graph) c.self.view_is in
    let nd : darts (rotation_of (tables_of c.self.inside)) ≡ darts c.args.self.now.graph = ap (λ (z : Embedded). darts z) eq in
    let ld : c.args.d.0 < 2 * length c.self.inside.ends.items = omega (arith, c.requires) in
    let r : c.cw.result ≡ next (rotation_of (tables_of c.self.inside)) c.args.d.0 =
    c.cw.ensures
    ∙ c.self.invariant.0.clockwise.each c.args.d.0 ld in
    subst (λ (g : Embedded). at g c.cw.result ≡ at g c.args.d.0) eq
    (ap (at (rotation_of (tables_of c.self.inside))) r ∙ at_next (tables_of c.self.inside) c.self.invariant.0 c.args.d.0 ld)
