use Rattle.std.proofs.Common.{subst}
use Rattle.st_map.specs.Embedded.{MapValue}
use Rattle.st_sides.specs.SidesOf.{IsSidesOf}
use Rattle.st_test.specs.Planar.{StValue}
use Rattle.st_session.proofs.NumberLemmas.{labels_are}
use Rattle.st_session.proofs.numbers.labels_of.Goals as goal

pub returns : goal.returns
returns c =
    let near : IsSidesOf c.in_ok-copy.copy.graph c.args.poles.source.0 c.args.poles.sink.0 c.args.outer.0 c.in_ok-sides.sides =
    subst (λ (z : StValue). IsSidesOf z.map.graph z.source z.sink z.outer c.in_ok-sides.sides) c.in_ok-graph.ensures c.in_ok-sides.ensures in
    let far : IsSidesOf c.args.map.now.graph c.args.poles.source.0 c.args.poles.sink.0 c.args.outer.0 c.in_ok-sides.sides =
    subst (λ (z : MapValue). IsSidesOf z.graph c.args.poles.source.0 c.args.poles.sink.0 c.args.outer.0 c.in_ok-sides.sides) c.in_ok-copy.ensures near in
    labels_are c.args.map.now.graph c.args.poles.source.0 c.args.poles.sink.0 c.args.outer.0 c.in_ok-sides.sides c.in_ok-found.found far c.facts.ensures.sizes c.in_ok-found.ensures.numbers c.in_ok-found.ensures.reaching
