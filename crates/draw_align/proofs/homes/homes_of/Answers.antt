use Rattle.std.proofs.Common.{arith}
use Rattle.draw_align.proofs.HomeLemmas.{homing_end}
use Rattle.draw_align.proofs.homes.homes_of.Goals as goal

pub returns : goal.returns
returns c = homing_end c.args.sides.now c.args.paths.now c.requires.edges c.loop-e.e c.loop-e.found.count c.loop-e.found.table c.loop-e.invariant
    (omega (arith, c.loop-e-test.false, c.loop-e.auto.e-end, c.edges-e-end.ensures.value))
