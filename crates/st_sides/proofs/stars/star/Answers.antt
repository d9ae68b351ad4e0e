use Rattle.std.proofs.Common.{false, sym, subst}
use Rattle.st_ids.specs.EdgeNumbers.{numbers}
use Rattle.st_map.specs.Embedded.{darts, next}
use Rattle.st_map.specs.Orbits.{Permutes}
use Rattle.st_sides.specs.Rounds.{AreParts, HasParts, round}
use Rattle.st_sides.proofs.StarLemmas.{next_st}
use Rattle.st_sides.proofs.StartLemmas.{star_parts, star_lists}
use Rattle.st_sides.proofs.stars.star.Goals as goal

pub parts-requires-clause-permutes : goal.parts-requires-clause-permutes
parts-requires-clause-permutes c =
    subst (λ z. Permutes (darts z.graph) (next z.graph)) (sym c.map.ensures.value)
    (next_st c.args.graph.now.map.graph c.args.graph.now.source c.args.graph.now.sink c.args.graph.now.outer c.map.ensures.planar)

pub parts-requires-clause-some : goal.parts-requires-clause-some
parts-requires-clause-some c =
    subst (λ z. HasParts (next z.graph) c.args.start.0) (sym c.map.ensures.value)
    (star_parts c.args.graph.now.map.graph c.args.graph.now.source c.args.graph.now.sink c.args.graph.now.outer c.map.ensures.planar c.args.v.0 c.args.start.0 c.requires)

pub returns-clause-outs : goal.returns-clause-outs
returns-clause-outs c =
    (star_lists c.args.graph.now.map.graph c.args.graph.now.source c.args.graph.now.sink c.args.graph.now.outer c.map.ensures.planar c.args.v.0 c.args.start.0 c.requires
    (numbers c.parts.new.outs.items) (numbers c.parts.new.ins.items) c.in_ok-_stop._stop.0
    (subst (λ z. AreParts (round z.graph false) c.args.start.0 (numbers c.parts.new.outs.items) (numbers c.parts.new.ins.items) c.in_ok-_stop._stop.0) c.map.ensures.value c.in_ok-_stop.ensures.parts)).0

pub returns-clause-ins : goal.returns-clause-ins
returns-clause-ins c =
    (star_lists c.args.graph.now.map.graph c.args.graph.now.source c.args.graph.now.sink c.args.graph.now.outer c.map.ensures.planar c.args.v.0 c.args.start.0 c.requires
    (numbers c.parts.new.outs.items) (numbers c.parts.new.ins.items) c.in_ok-_stop._stop.0
    (subst (λ z. AreParts (round z.graph false) c.args.start.0 (numbers c.parts.new.outs.items) (numbers c.parts.new.ins.items) c.in_ok-_stop._stop.0) c.map.ensures.value c.in_ok-_stop.ensures.parts)).1
