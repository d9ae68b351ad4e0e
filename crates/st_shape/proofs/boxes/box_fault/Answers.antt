use Rattle.std.proofs.Common.{◌∙◌, sym, ap, Some}
use Rattle.st_shape.proofs.LeastLemmas.{IsTilingFault-unique}
use Rattle.st_shape.proofs.Tiling.{NoPair-tiled, Sum-tiled, Tiled-from}
use Rattle.st_shape.proofs.boxes.box_fault.Goals as goal

pub returns-in-Some-clause-tiled : goal.returns-in-Some-clause-tiled
returns-in-Some-clause-tiled c = λ t.
    let w = c.in-Some.ensures in
    absurd (NoPair-tiled c.args.frame c.args.items.now c.requires.fits t _ _ w.order w.within w.faulty)

pub returns-then-sum-from-clause-fault : goal.returns-then-sum-from-clause-fault
returns-then-sum-from-clause-fault c =
    Tiled-from c.args.frame c.args.items.now c.requires.frame c.requires.fits c.in-None.ensures
    (sym c.sum_of_areas-sum.ensures ∙ c.if-sum-from.true ∙ c.from.ensures ∙ c.area_of_frame.ensures)

pub returns-else-sum-from-clause-tiled : goal.returns-else-sum-from-clause-tiled
returns-else-sum-from-clause-tiled c = λ t.
    let e = Sum-tiled c.args.frame c.args.items.now c.requires.frame c.requires.fits t in
    absurd (c.if-sum-from.false (c.sum_of_areas-sum.ensures ∙ e ∙ sym c.area_of_frame.ensures ∙ sym c.from.ensures))

pub returns-in-Some-clause-exact : goal.returns-in-Some-clause-exact
returns-in-Some-clause-exact c = λ f h. ap Some (IsTilingFault-unique c.args.frame c.args.items.now _ f c.in-Some.ensures h)
