use Rattle.stdraw_core.proofs.drawing.dominance_of.Goals as goal

pub returns : goal.returns
returns c = record { points = c.in_ok-drawn.drawn.points; is = c.in_ok-drawn.ensures.picture }
