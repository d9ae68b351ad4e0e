use Rattle.std.proofs.Common.{◌≡◌, false, true}
use Rattle.st_sides.proofs.StartLemmas.{vertex_begins}
use Rattle.st_sides.proofs.stars.star_start.Goals as goal

differ : false ≡ true → ⊥
differ q = cc

pub returns : goal.returns
returns c =
    vertex_begins c.args.graph.now.map.graph c.args.graph.now.source c.args.graph.now.sink c.args.graph.now.outer c.map.ensures.planar c.args.starts.now c.requires.starts c.args.v.0 c.requires.there
    (λ p. differ (c.if-is_pole.ensures.1 p))
