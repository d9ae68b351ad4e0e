use Rattle.std.proofs.Common.{◌≡◌, ◌+◌, ◌<◌, ◌∙◌, length, get_or, false, arith}
use Rattle.std.proofs.lemmas.List.{get_or_default}
use Rattle.st_map.specs.Counting.{bit}
use Rattle.st_reduce.specs.Marks.{marked_below}
use Rattle.st_reduce.proofs.MarkedLemmas.{marked_next}
use Rattle.st_reduce.proofs.marks.count_marks.Goals as goal

pub loop-e-preserved : goal.loop-e-preserved
loop-e-preserved c =
    let l : c.loop-e.e < length c.args.marks.now = omega (arith, c.loop-e-test.true, c.requires) in
    let mark : c.get.result.now ≡ get_or c.args.marks.now c.loop-e.e false = c.get.ensures.read ∙ get_or_default c.args.marks.now c.loop-e.e c.get.result.now false l in
    let a : marked_below c.args.marks.now (c.loop-e.e + 1) ≡ bit c.get.result.now + marked_below c.args.marks.now c.loop-e.e = marked_next c.args.marks.now c.loop-e.e c.get.result.now mark in
    (omega (arith, c.loop-e.invariant.0, c.one_if-count.ensures.value), omega (arith, c.loop-e.invariant.1, c.one_if-count.ensures.few))
