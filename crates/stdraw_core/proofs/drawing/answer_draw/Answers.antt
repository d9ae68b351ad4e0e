use Rattle.stdraw_core.proofs.drawing.answer_draw.Goals as goal

pub returns-in-Ok : goal.returns-in-Ok
returns-in-Ok c = record { picture = c.in-Ok.picture; depicts = c.in-Ok.ensures.ok; told = c.picture.ensures }
