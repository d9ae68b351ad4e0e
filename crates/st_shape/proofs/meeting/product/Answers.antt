use Rattle.st_shape.proofs.Fitting.{product_is, product_low, product_high}
use Rattle.st_shape.proofs.meeting.product.Goals as goal

pub returns-clause-value : goal.returns-clause-value
returns-clause-value c =
    product_is c.args.a c.args.b c.requires.a_low c.requires.a_high c.requires.b_low c.requires.b_high

pub returns-clause-low : goal.returns-clause-low
returns-clause-low c =
    rw (product_is c.args.a c.args.b c.requires.a_low c.requires.a_high c.requires.b_low c.requires.b_high)
    (product_low c.args.a c.args.b c.requires.a_low c.requires.a_high c.requires.b_low c.requires.b_high)

pub returns-clause-high : goal.returns-clause-high
returns-clause-high c =
    rw (product_is c.args.a c.args.b c.requires.a_low c.requires.a_high c.requires.b_low c.requires.b_high)
    (product_high c.args.a c.args.b c.requires.a_low c.requires.a_high c.requires.b_low c.requires.b_high)
