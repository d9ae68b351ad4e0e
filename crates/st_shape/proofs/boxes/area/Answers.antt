use Rattle.std.proofs.Common.{mul-le-mul}
use Rattle.st_shape.proofs.BoxLemmas.{side_most}
use Rattle.st_shape.proofs.boxes.area.Goals as goal

pub returns-clause-most : goal.returns-clause-most
returns-clause-most c =
    let low = c.requires.low in
    let high = c.requires.high in
    mul-le-mul (side_most c.args.c.low.x c.args.c.high.x _ low.x_low low.x_high high.x_low high.x_high c.abs_diff.ensures)
    (side_most c.args.c.low.y c.args.c.high.y _ low.y_low low.y_high high.y_low high.y_high c.abs_diff-2.ensures)
