use Rattle.std.proofs.Common.{◌≡◌, ◌<◌, length, get_or, ap, ◌∙◌, arith}
use Rattle.std.proofs.lemmas.List.{get_or_default}
use Rattle.st_map.specs.Embedded.{Embedded, MapValue, order}
use Rattle.st_map.specs.Tables.{rotation_of}
use Rattle.st_map.proofs.MapTables.{tables_of}
use Rattle.st_map.proofs.MapLemmas.{degree_is}
use Rattle.st_map.proofs.map.Map.degree.Goals as goal

pub returns : goal.returns
returns c =
    let eq : rotation_of (tables_of c.self.inside) ≡ c.args.self.now.graph = ap (λ (z : MapValue). z.graph) c.self.view_is in
    let nv : c.self.inside.vertices ≡ c.args.self.now.graph.vertices = ap (λ (z : Embedded). z.vertices) eq in
    let lv : c.args.v.0 < c.self.inside.vertices = omega (arith, c.requires) in
    let d : c.index.result.now ≡ get_or c.self.inside.degree.items c.args.v.0 0 =
    c.index.ensures ∙ get_or_default c.self.inside.degree.items c.args.v.0 c.index.result.now 0 (omega (arith, c.self.invariant.0.degrees)) in
    d ∙ degree_is (tables_of c.self.inside) c.self.invariant.0 c.args.v.0 lv ∙ ap (λ (g : Embedded). length (order g c.args.v.0)) eq
