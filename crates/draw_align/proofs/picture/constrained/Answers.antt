use Rattle.std.proofs.Common.{◌≤◌, length, arith}
use Rattle.st_sides.specs.Sides.{edge_count}
use Rattle.draw_align.proofs.ConstrainedLemmas.{constrained_drawn}
use Rattle.draw_align.proofs.HomeLemmas.{few_paths}
use Rattle.draw_align.proofs.PictureLemmas.{ranked, aligned_of}
use Rattle.draw_align.proofs.picture.constrained.Goals as goal

pub test_paths-requires-clause-ranked : goal.test_paths-requires-clause-ranked
test_paths-requires-clause-ranked g c = ranked c.args.sides.now c.local.ensures c.in_ok-ranks.ranks c.in_ok-ranks.ensures

pub homes_of-requires-clause-many : goal.homes_of-requires-clause-many
homes_of-requires-clause-many g c =
    let h : length c.args.paths.now ≤ edge_count c.args.sides.now = few_paths c.args.sides.now c.args.paths.now c.requires.edges c.in_ok-steps.ensures.sound in
    omega (arith, h, c.requires.wide)

pub draw-requires-clause-few : goal.draw-requires-clause-few
draw-requires-clause-few g c = few_paths c.args.sides.now c.args.paths.now c.requires.edges c.in_ok-steps.ensures.sound

pub returns-clause-drawn : goal.returns-clause-drawn
returns-clause-drawn g c =
    let B = c.in_ok-picture.ensures in
    constrained_drawn c.args.sides.now c.local.ensures c.args.paths.now c.in_ok-steps.ensures.sound B.weight B.from_one c.args.names.now c.requires.names c.in_ok-picture.picture B.picture

pub returns-clause-aligned : goal.returns-clause-aligned
returns-clause-aligned g c =
    let B = c.in_ok-picture.ensures in
    aligned_of c.args.sides.now c.args.paths.now c.requires.edges B.weight c.args.names.now c.in_ok-picture.picture B.picture
