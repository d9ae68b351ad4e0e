use Rattle.draw_align.proofs.ApartLemmas.{apart_more}
use Rattle.draw_align.proofs.apart.crossing_fault.Goals as goal

pub returns-then-are_apart-clause-none : goal.returns-then-are_apart-clause-none
returns-then-are_apart-clause-none c = λ _. c.are_apart.ensures.yes c.if-are_apart.true

pub returns-in-None-clause-none : goal.returns-in-None-clause-none
returns-in-None-clause-none c = λ _. absurd (c.count_apart-path.ensures.crossed
    (apart_more c.args.sides.now c.args.paths.now c.count_apart-path.result c.count_apart-path.ensures.apart (λ q v. c.first_crossing.ensures.none c.in-None.is q v)))
