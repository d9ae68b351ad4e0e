use Rattle.st_shape.proofs.TouchLemmas.{IsFaultyAt-flags}
use Rattle.st_shape.proofs.pairs.are_faulty_vertex_and_line.Goals as goal

pub returns : goal.returns
returns c =
    let figure = c.args.v.figure in
    let points = c.args.points.now in (
      λ t. IsFaultyAt-flags figure points _ _ _ _ c.is-at_tail.ensures.0 c.is-at_tail.ensures.1 c.is-at_head.ensures.0 c.is-at_head.ensures.1 (c.is_faulty_at.ensures.0 t),
      λ h. c.is_faulty_at.ensures.1 (IsFaultyAt-flags figure points _ _ _ _ c.is-at_tail.ensures.1 c.is-at_tail.ensures.0 c.is-at_head.ensures.1 c.is-at_head.ensures.0 h),
    )
