use Rattle.std.proofs.Common.{List, ℕ, subst}
use Rattle.std.specs.Prelude.{Err}
use Rattle.gml_core.specs.Views.{view}
use Rattle.st_verdict.specs.File.{IsGraph}
use Rattle.st_script.specs.declared.items.ScriptItem.{ScriptItem}
use Rattle.st_verdict.specs.Stages.{Then}
use Rattle.st_verdict.specs.Stops.{Gives}
use Rattle.st_verdict.proofs.Public.{gives_next, stop_first}
use Rattle.stdraw_core.specs.Session.{AnswersRecords, IsScriptIn}
use Rattle.stdraw_core.proofs.session.answer_tree.Goals as goal

pub returns-in-Err : goal.returns-in-Err
returns-in-Err c = stop_first {B = List ℕ} (IsScriptIn (view c.args.tree)) (λ items. Then (IsGraph (view c.args.tree)) (AnswersRecords items)) c.in-Err.stop c.in-Err.ensures

pub returns-in-Err-graph_of : goal.returns-in-Err-graph_of
returns-in-Err-graph_of c =
    gives_next {B = List ℕ} (IsScriptIn (view c.args.tree)) (λ items. Then (IsGraph (view c.args.tree)) (AnswersRecords items)) c.in-Ok.script (Err c.in-Err-graph_of.stop) c.in-Ok.ensures
    (stop_first {B = List ℕ} (IsGraph (view c.args.tree)) (AnswersRecords c.in-Ok.script) c.in-Err-graph_of.stop c.in-Err-graph_of.ensures.err)

pub returns : goal.returns
returns c =
    gives_next {B = List ℕ} (IsScriptIn (view c.args.tree)) (λ items. Then (IsGraph (view c.args.tree)) (AnswersRecords items)) c.in-Ok.script c.answer_records.result c.in-Ok.ensures
    (gives_next {B = List ℕ} (IsGraph (view c.args.tree)) (AnswersRecords c.in-Ok.script) c.in-Ok-graph_of.spec c.answer_records.result c.in-Ok-graph_of.ensures.ok
    (subst (λ (z : List ScriptItem). Gives (AnswersRecords z c.in-Ok-graph_of.spec) c.answer_records.result) c.items.ensures c.answer_records.ensures))
