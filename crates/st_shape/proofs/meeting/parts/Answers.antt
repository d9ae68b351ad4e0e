use Rattle.std.proofs.Common.{rules}
use Rattle.st_shape.proofs.Fitting.{parted_test}
use Rattle.st_shape.proofs.meeting.parts.Goals as goal

pub returns-then-min-le0 : goal.returns-then-min-le0
returns-then-min-le0 c =
    parted_test _ _ _ _ _ _ c.cross_product-first.ensures c.cross_product-second.ensures (search rules) (search rules)
    c.min.ensures.value c.max.ensures.value c.if-min-le0.true
