use Rattle.std.proofs.Common.{List, ℕ}
use Rattle.st_verdict.proofs.Public.{stop_first, gives_next}
use Rattle.stdraw_core.specs.Checked.{AnswersDrawing, IsDrawingIn}
use Rattle.stdraw_core.proofs.checked.answer_text.Goals as goal

pub returns-in-Err : goal.returns-in-Err
returns-in-Err c = stop_first {B = List ℕ} (IsDrawingIn c.args.bytes) AnswersDrawing c.in-Err.stop (rw c.bytes-2.ensures at c.in-Err.ensures)

pub returns : goal.returns
returns c = gives_next {B = List ℕ} (IsDrawingIn c.args.bytes) AnswersDrawing c.in-Ok.picture c.verdict_of.result (rw c.bytes-2.ensures at c.in-Ok.ensures) c.verdict_of.ensures
