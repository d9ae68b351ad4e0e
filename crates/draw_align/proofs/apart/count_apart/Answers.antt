use Rattle.std.proofs.Common.{◌≡◌, ◌+◌, subst, arith}
use Rattle.draw_align.specs.Faults.{AreApart}
use Rattle.draw_align.proofs.apart.count_apart.Goals as goal

pub loop-apart-preserved-then-are_apart : goal.loop-apart-preserved-then-are_apart
loop-apart-preserved-then-are_apart c = record {
  in_order = omega arith;
  within = c.loop-apart.invariant.within;
  apart = c.are_apart.ensures.yes c.if-are_apart.true;
  crossed = c.loop-apart.invariant.crossed;
}

pub returns-clause-crossed : goal.returns-clause-crossed
returns-clause-crossed c = λ A.
    let e : c.loop-apart.apart + 1 ≡ c.loop-apart.crossed = omega arith in
    c.loop-apart.invariant.crossed (subst (λ z. AreApart c.args.sides.now c.args.paths.now z) e A)
