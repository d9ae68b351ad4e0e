use Rattle.st_shape.proofs.AloneLemmas.{not_less, less_from, less_to, sum_fits}
use Rattle.st_shape.proofs.alone.rises_in_dominance.Goals as goal

pub returns : goal.returns
returns c =
    let s = c.args.s in
    let a = c.requires.a in
    let b = c.requires.b in
    rw (sum_fits s.a.x s.a.y a.x_low a.x_high a.y_low a.y_high, sum_fits s.b.x s.b.y b.x_low b.x_high b.y_low b.y_high) (
      λ t. record {
        x = not_less s.a.x s.b.x a.x_low a.x_high b.x_low b.x_high c.if-s.false;
        y = not_less s.a.y s.b.y a.y_low a.y_high b.y_low b.y_high c.if-s-2.false;
        sum = less_from _ _ t;
      },
      λ h. less_to _ _ h.sum,
    )
