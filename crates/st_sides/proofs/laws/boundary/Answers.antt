use Rattle.std.proofs.Common.{◌*◌}
use Rattle.st_sides.specs.Sides.{SidesValue, outs}
use Rattle.st_sides.specs.LocalSides.{first}
use Rattle.st_sides.specs.SidesOf.{told_graph}
use Rattle.st_sides.proofs.SweptLemmas.{swept_law}
use Rattle.st_sides.proofs.laws.boundary.Goals as goal

pub returns-clause-boundary : goal.returns-clause-boundary
returns-clause-boundary c =
    let x : SidesValue = c.args.sides.now in
    (swept_law (told_graph x) x.source x.sink (2 * first (outs x x.source)) x c.facts.ensures.own.planar c.facts.ensures.own.sides).0

pub returns-clause-sweep : goal.returns-clause-sweep
returns-clause-sweep c =
    let x : SidesValue = c.args.sides.now in
    (swept_law (told_graph x) x.source x.sink (2 * first (outs x x.source)) x c.facts.ensures.own.planar c.facts.ensures.own.sides).1
