use Rattle.st_shape.proofs.CrossLines.{Away-beside, Beside-away, CrossBeside-flags}
use Rattle.st_shape.proofs.pairs.are_faulty_lines.Goals as goal

pub returns : goal.returns
returns c =
    let a = c.args in (
      λ t.
          Away-beside a.points.now a.other_points.now a.ends.tail.number a.ends.head.number a.other_ends.tail.number a.other_ends.head.number
          (CrossBeside-flags a.points.now a.other_points.now _ _ _ _ _ _ _ _ c.is-tails.ensures.1 c.is-tail_head.ensures.1 c.is-head_tail.ensures.1 c.is-heads.ensures.1
          (c.cross_apart.ensures.0 t)),
      λ h.
          c.cross_apart.ensures.1 (CrossBeside-flags a.points.now a.other_points.now _ _ _ _ _ _ _ _ c.is-tails.ensures.0 c.is-tail_head.ensures.0 c.is-head_tail.ensures.0 c.is-heads.ensures.0
          (Beside-away a.points.now a.other_points.now a.ends.tail.number a.ends.head.number a.other_ends.tail.number a.other_ends.head.number h)),
    )
