use Rattle.draw_align.proofs.CrossLemmas.{found, not_turned}
use Rattle.draw_align.proofs.crossing.crossed_by.Goals as goal

pub returns-in-None : goal.returns-in-None
returns-in-None c = λ r B. c.passing.ensures.none c.in-None.is r B.1.y' B.0 B.1.passes

pub returns-then-turned : goal.returns-then-turned
returns-then-turned c =
    let P = c.in-Some.ensures.some in
    found c.args.sides.now c.local.ensures c.args.columns.now c.requires.ranked c.args.paths.now c.requires.edges c.args.noted.now.count c.requires.noted.within c.requires.noted.disjoint
    c.args.p c.args.x.0 c.args.y.0 c.args.other_x.0 c.in-Some.other c.requires.within P.0 P.1 (c.turned.ensures.yes c.if-turned.true)

pub returns : goal.returns
returns c =
    let P = c.in-Some.ensures.some in
    not_turned c.args.sides.now c.local.ensures c.args.columns.now c.requires.ranked c.args.paths.now c.requires.edges c.args.noted.now.count c.requires.noted.within c.requires.noted.disjoint
    c.args.p c.args.x.0 c.args.y.0 c.args.other_x.0 c.in-Some.other c.requires.within P.0 P.1 (c.turned.ensures.no c.if-turned.false)
