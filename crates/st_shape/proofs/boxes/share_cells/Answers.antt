use Rattle.st_shape.proofs.BoxLemmas.{less_holds, less_passes, ShareCells-from, ShareCells-x, ShareCells-y, test_fails, test_passes}
use Rattle.st_shape.proofs.boxes.share_cells.Goals as goal

pub returns-then-max-min : goal.returns-then-max-min
returns-then-max-min c =
    let a = c.args.a in
    let b = c.args.b in
    let r = c.requires in (
      λ t. cc,
      λ s.
          absurd (test_fails a.low.x a.high.x b.low.x b.high.x _ _ r.a_low.x_low r.a_low.x_high r.a_high.x_low r.a_high.x_high
          r.b_low.x_low r.b_low.x_high r.b_high.x_low r.b_high.x_high c.max.ensures.value c.min.ensures.value c.if-max-min.true
          (ShareCells-x a.low a.high b.low b.high r.a_low r.b_low s)),
    )

pub returns : goal.returns
returns c =
    let a = c.args.a in
    let b = c.args.b in
    let r = c.requires in (
      λ t.
          ShareCells-from a.low a.high b.low b.high r.a_low r.b_low
          (test_passes a.low.x a.high.x b.low.x b.high.x _ _ r.a_low.x_low r.a_low.x_high r.a_high.x_low r.a_high.x_high
          r.b_low.x_low r.b_low.x_high r.b_high.x_low r.b_high.x_high c.max.ensures.value c.min.ensures.value c.if-max-min.false)
          (less_passes a.low.y a.high.y b.low.y b.high.y _ _ r.a_low.y_low r.a_low.y_high r.a_high.y_low r.a_high.y_high
          r.b_low.y_low r.b_low.y_high r.b_high.y_low r.b_high.y_high c.max-2.ensures.value c.min-2.ensures.value t),
      λ s.
          less_holds a.low.y a.high.y b.low.y b.high.y _ _ r.a_low.y_low r.a_low.y_high r.a_high.y_low r.a_high.y_high
          r.b_low.y_low r.b_low.y_high r.b_high.y_low r.b_high.y_high c.max-2.ensures.value c.min-2.ensures.value
          (ShareCells-y a.low a.high b.low b.high r.a_low r.b_low s),
    )
