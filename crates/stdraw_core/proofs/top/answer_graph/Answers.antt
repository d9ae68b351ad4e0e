use Rattle.std.proofs.Common.{List, ℕ}
use Rattle.st_verdict.specs.Verdict.{IsAccepted}
use Rattle.stdraw_core.specs.Answer.{AnswersCommand}
use Rattle.st_verdict.proofs.Public.{found, stop_first, gives_next}
use Rattle.stdraw_core.proofs.top.answer_graph.Goals as goal

pub returns-in-Err : goal.returns-in-Err
returns-in-Err c = stop_first {B = List ℕ} (IsAccepted c.args.spec.now) (AnswersCommand c.args.command.now c.args.spec.now) c.in-Err.stop c.in-Err.ensures

pub answer_command-requires-clause-found : goal.answer_command-requires-clause-found
answer_command-requires-clause-found c = found c.args.spec.now c.in-Ok.graph c.in-Ok.ensures

pub returns : goal.returns
returns c = gives_next {B = List ℕ} (IsAccepted c.args.spec.now) (AnswersCommand c.args.command.now c.args.spec.now) c.in-Ok.graph c.answer_command.result c.in-Ok.ensures c.answer_command.ensures
