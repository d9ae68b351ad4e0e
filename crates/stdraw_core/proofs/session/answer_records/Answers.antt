use Rattle.std.proofs.Common.{List, ℕ}
use Rattle.std.specs.Prelude.{Err}
use Rattle.st_verdict.specs.Stages.{Then}
use Rattle.st_verdict.specs.Verdict.{IsAccepted}
use Rattle.st_verdict.proofs.Public.{found, gives_next, stop_first}
use Rattle.stdraw_core.specs.Session.{AnswersScript, AreFewRecords}
use Rattle.stdraw_core.proofs.session.answer_records.Goals as goal

pub returns-in-Err : goal.returns-in-Err
returns-in-Err c = stop_first {B = List ℕ} (AreFewRecords c.args.items.now) (λ _. Then (IsAccepted c.args.spec) (AnswersScript c.args.items.now c.args.spec)) c.in-Err.stop c.in-Err.ensures

pub returns-in-Err-accept : goal.returns-in-Err-accept
returns-in-Err-accept c =
    gives_next {B = List ℕ} (AreFewRecords c.args.items.now) (λ _. Then (IsAccepted c.args.spec) (AnswersScript c.args.items.now c.args.spec)) tt (Err c.in-Err-accept.stop) c.in-Ok.ensures
    (stop_first {B = List ℕ} (IsAccepted c.args.spec) (AnswersScript c.args.items.now c.args.spec) c.in-Err-accept.stop c.in-Err-accept.ensures)

pub returns : goal.returns
returns c =
    gives_next {B = List ℕ} (AreFewRecords c.args.items.now) (λ _. Then (IsAccepted c.args.spec) (AnswersScript c.args.items.now c.args.spec)) tt c.answer_script.result c.in-Ok.ensures
    (gives_next {B = List ℕ} (IsAccepted c.args.spec) (AnswersScript c.args.items.now c.args.spec) c.in-Ok-accept.graph c.answer_script.result c.in-Ok-accept.ensures c.answer_script.ensures)

pub answer_script-requires-clause-found : goal.answer_script-requires-clause-found
answer_script-requires-clause-found c = found c.args.spec c.in-Ok-accept.graph c.in-Ok-accept.ensures
