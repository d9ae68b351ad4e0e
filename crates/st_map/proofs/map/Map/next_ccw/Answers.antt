use Rattle.std.proofs.Common.{◌≡◌, ◌*◌, ◌<◌, length, get_or, ap, ◌∙◌, subst, arith}
use Rattle.st_map.specs.Embedded.{Embedded, MapValue, at, next, darts}
use Rattle.st_map.specs.Tables.{rotation_of}
use Rattle.st_map.proofs.MapTables.{tables_of}
use Rattle.st_map.proofs.MapLemmas.{back_is}
use Rattle.st_map.proofs.map.Map.next_ccw.Goals as goal

pub returns-clause-value : goal.returns-clause-value
returns-clause-value c =
    let eq : rotation_of (tables_of c.self.inside) ≡ c.args.self.now.graph = ap (λ (z : MapValue). z.graph) c.self.view_is in
    let nd : darts (rotation_of (tables_of c.self.inside)) ≡ darts c.args.self.now.graph = ap (λ (z : Embedded). darts z) eq in
    let ld : c.args.d.0 < 2 * length c.self.inside.ends.items = omega (arith, c.requires) in
    let r : c.ccw.result ≡ get_or c.self.inside.links.ccw c.args.d.0 0 =
    c.ccw.ensures in
    let back : (get_or c.self.inside.links.ccw c.args.d.0 0 < 2 * length c.self.inside.ends.items)
    × (next (rotation_of (tables_of c.self.inside)) (get_or c.self.inside.links.ccw c.args.d.0 0) ≡ c.args.d.0)
    × (at (rotation_of (tables_of c.self.inside)) (get_or c.self.inside.links.ccw c.args.d.0 0) ≡ at (rotation_of (tables_of c.self.inside)) c.args.d.0) =
    back_is (tables_of c.self.inside) c.self.invariant.0 c.args.d.0 ld in
    subst (λ (g : Embedded). next g c.ccw.result ≡ c.args.d.0) eq (ap (next (rotation_of (tables_of c.self.inside))) r ∙ back.1)

pub returns-clause-within : goal.returns-clause-within
returns-clause-within c =
    let eq : rotation_of (tables_of c.self.inside) ≡ c.args.self.now.graph = ap (λ (z : MapValue). z.graph) c.self.view_is in
    let nd : darts (rotation_of (tables_of c.self.inside)) ≡ darts c.args.self.now.graph = ap (λ (z : Embedded). darts z) eq in
    let ld : c.args.d.0 < 2 * length c.self.inside.ends.items = omega (arith, c.requires) in
    let r : c.ccw.result ≡ get_or c.self.inside.links.ccw c.args.d.0 0 =
    c.ccw.ensures in
    let back : (get_or c.self.inside.links.ccw c.args.d.0 0 < 2 * length c.self.inside.ends.items)
    × (next (rotation_of (tables_of c.self.inside)) (get_or c.self.inside.links.ccw c.args.d.0 0) ≡ c.args.d.0)
    × (at (rotation_of (tables_of c.self.inside)) (get_or c.self.inside.links.ccw c.args.d.0 0) ≡ at (rotation_of (tables_of c.self.inside)) c.args.d.0) =
    back_is (tables_of c.self.inside) c.self.invariant.0 c.args.d.0 ld in
    omega (arith, back.0)

pub returns-clause-vertex : goal.returns-clause-vertex
returns-clause-vertex c =
    let eq : rotation_of (tables_of c.self.inside) ≡ c.args.self.now.graph = ap (λ (z : MapValue). z.graph) c.self.view_is in
    let nd : darts (rotation_of (tables_of c.self.inside)) ≡ darts c.args.self.now.graph = ap (λ (z : Embedded). darts z) eq in
    let ld : c.args.d.0 < 2 * length c.self.inside.ends.items = omega (arith, c.requires) in
    let r : c.ccw.result ≡ get_or c.self.inside.links.ccw c.args.d.0 0 =
    c.ccw.ensures in
    let back : (get_or c.self.inside.links.ccw c.args.d.0 0 < 2 * length c.self.inside.ends.items)
    × (next (rotation_of (tables_of c.self.inside)) (get_or c.self.inside.links.ccw c.args.d.0 0) ≡ c.args.d.0)
    × (at (rotation_of (tables_of c.self.inside)) (get_or c.self.inside.links.ccw c.args.d.0 0) ≡ at (rotation_of (tables_of c.self.inside)) c.args.d.0) =
    back_is (tables_of c.self.inside) c.self.invariant.0 c.args.d.0 ld in
    subst (λ (g : Embedded). at g c.ccw.result ≡ at g c.args.d.0) eq (ap (at (rotation_of (tables_of c.self.inside))) r ∙ back.2)
