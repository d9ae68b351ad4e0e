use Rattle.std.proofs.Common.{List, ℕ}
use Rattle.gml_core.specs.Views.{view}
use Rattle.st_verdict.specs.File.{IsTree}
use Rattle.st_verdict.proofs.Public.{gives_next, stop_first}
use Rattle.stdraw_core.specs.Session.{AnswersTree}
use Rattle.stdraw_core.proofs.session.answer_session.Goals as goal

pub returns-in-Err : goal.returns-in-Err
returns-in-Err c = λ b h. stop_first {B = List ℕ} (IsTree b) AnswersTree c.in-Err.stop (c.in-Err.ensures.err b h)

pub returns : goal.returns
returns c = λ b h. gives_next {B = List ℕ} (IsTree b) AnswersTree (view c.in-Ok.tree) c.answer_tree.result (c.in-Ok.ensures.ok b h) c.answer_tree.ensures
