use Rattle.std.proofs.Common.{true, sym, ap, subst, ◌∙◌}
use Rattle.std.proofs.lemmas.Bool.{eq-eqb, ne_eqb}
use Rattle.st_ids.specs.EdgeNumbers.{numbers}
use Rattle.st_map.specs.Embedded.{at, darts, phi}
use Rattle.st_map.specs.Orbits.{Permutes}
use Rattle.st_sides.specs.Rounds.{AreParts, HasParts, round}
use Rattle.st_sides.proofs.FaceRuns.{perm_st}
use Rattle.st_sides.proofs.NodeStartLemmas.{node_parts, node_sides_of}
use Rattle.st_sides.proofs.paths.node_sides.Goals as goal

pub parts-requires-clause-permutes : goal.parts-requires-clause-permutes
parts-requires-clause-permutes c =
    subst (λ z. Permutes (darts z.graph) (phi z.graph)) (sym c.map-map.ensures.value)
    (perm_st c.args.graph.now.map.graph c.args.graph.now.source c.args.graph.now.sink c.args.graph.now.outer c.map-map.ensures.planar)

pub parts-requires-clause-some : goal.parts-requires-clause-some
parts-requires-clause-some c =
    subst (λ z. HasParts (phi z.graph) c.args.start.0) (sym c.map-map.ensures.value)
    (node_parts c.args.graph.now.map.graph c.args.graph.now.source c.args.graph.now.sink c.args.graph.now.outer c.map-map.ensures.planar c.args.f c.args.start.0 c.requires.begins)

pub returns : goal.returns
returns c =
    node_sides_of c.args.graph.now.map.graph c.args.graph.now.source c.args.graph.now.sink c.args.graph.now.outer c.map-map.ensures.planar c.args.f c.args.start.0 c.requires.there c.requires.begins
    (numbers c.parts.new.outs.items) (numbers c.parts.new.ins.items) c.in_ok-stop.stop.0
    (subst (λ z. AreParts (round z.graph true) c.args.start.0 (numbers c.parts.new.outs.items) (numbers c.parts.new.ins.items) c.in_ok-stop.stop.0) c.map-map.ensures.value c.in_ok-stop.ensures.parts)
    c.vertex_of.result.0 c.vertex_of-2.result.0 (numbers c.clear_if.new.list.items) (numbers c.clear_if-2.new.list.items)
    (c.vertex_of.ensures.value ∙ ap (λ z. at z.graph c.args.start.0) c.map-map.ensures.value)
    (c.vertex_of-2.ensures.value ∙ ap (λ z. at z.graph c.in_ok-stop.stop.0) c.map-map.ensures.value)
    (λ z. ap numbers (c.clear_if.ensures.none (eq-eqb c.args.f 0 z)))
    (λ n. ap numbers (c.clear_if.ensures.all (ne_eqb c.args.f 0 n)))
    (λ z. ap numbers (c.clear_if-2.ensures.none (eq-eqb c.args.f c.count_faces.result (z ∙ sym c.count_faces.ensures.value))))
    (λ n. ap numbers (c.clear_if-2.ensures.all (ne_eqb c.args.f c.count_faces.result (λ q. n (q ∙ c.count_faces.ensures.value)))))
