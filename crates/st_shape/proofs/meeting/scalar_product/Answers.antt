use Rattle.std.proofs.Common.{ap₂, ◌+ℤ◌}
use Rattle.st_shape.proofs.Fitting.{difference_is, difference_low, difference_high, product_sum_is, product_sum_fits}
use Rattle.st_shape.proofs.meeting.scalar_product.Goals as goal

pub product-requires-2-clause-a_low : goal.product-requires-2-clause-a_low
product-requires-2-clause-a_low c =
    let q = c.requires.q in
    let p = c.requires.p in
    rw (difference_is c.args.q.y c.args.p.y q.y_low q.y_high p.y_low p.y_high)
    (difference_low c.args.q.y c.args.p.y q.y_low q.y_high p.y_low p.y_high)

pub product-requires-2-clause-a_high : goal.product-requires-2-clause-a_high
product-requires-2-clause-a_high c =
    let q = c.requires.q in
    let p = c.requires.p in
    rw (difference_is c.args.q.y c.args.p.y q.y_low q.y_high p.y_low p.y_high)
    (difference_high c.args.q.y c.args.p.y q.y_low q.y_high p.y_low p.y_high)

pub product-requires-2-clause-b_low : goal.product-requires-2-clause-b_low
product-requires-2-clause-b_low c =
    let r = c.requires.r in
    let p = c.requires.p in
    rw (difference_is c.args.r.y c.args.p.y r.y_low r.y_high p.y_low p.y_high)
    (difference_low c.args.r.y c.args.p.y r.y_low r.y_high p.y_low p.y_high)

pub product-requires-2-clause-b_high : goal.product-requires-2-clause-b_high
product-requires-2-clause-b_high c =
    let r = c.requires.r in
    let p = c.requires.p in
    rw (difference_is c.args.r.y c.args.p.y r.y_low r.y_high p.y_low p.y_high)
    (difference_high c.args.r.y c.args.p.y r.y_low r.y_high p.y_low p.y_high)

pub overflow_add-result : goal.overflow_add-result
overflow_add-result c =
    product_sum_fits _ _ c.product.ensures.low c.product.ensures.high c.product-2.ensures.low c.product-2.ensures.high

pub returns : goal.returns
returns c =
    let p = c.requires.p in
    let q = c.requires.q in
    let r = c.requires.r in
    let qx = difference_is c.args.q.x c.args.p.x q.x_low q.x_high p.x_low p.x_high in
    let rx = difference_is c.args.r.x c.args.p.x r.x_low r.x_high p.x_low p.x_high in
    let qy = difference_is c.args.q.y c.args.p.y q.y_low q.y_high p.y_low p.y_high in
    let ry = difference_is c.args.r.y c.args.p.y r.y_low r.y_high p.y_low p.y_high in
    let e = rw (qx, rx) at c.product.ensures.value in
    let f = rw (qy, ry) at c.product-2.ensures.value in
    rw (product_sum_is _ _ c.product.ensures.low c.product.ensures.high c.product-2.ensures.low c.product-2.ensures.high)
    (ap₂ (λ a b. a +ℤ b) e f)
