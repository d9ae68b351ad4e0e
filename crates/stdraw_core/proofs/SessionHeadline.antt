-- A session is answered exactly where all records of the file can be carried out.
use Rattle.std.proofs.Common.{◌≡◌, ◌≢◌, ℕ, List, [], Some, refl, sym, subst}
use Rattle.std.specs.Prelude.{Result, Ok, Err, IfSome}
use Rattle.std.specs.declared.option.Option.{Option}
use Rattle.st_input.specs.InputGraph.{InputGraph}
use Rattle.st_port.specs.Streams.{SourceState, SinkState, Gains}
use Rattle.st_report.specs.declared.stop.Refusal.{Refusal}
use Rattle.st_report.specs.declared.stop.Status.{Status}
use Rattle.st_report.specs.declared.stop.Status.TheVariants as status
use Rattle.st_script.specs.declared.items.ScriptItem.{ScriptItem}
use Rattle.st_session.specs.Runs.{Runs}
use Rattle.st_session.specs.States.{SessionValue}
use Rattle.st_session.specs.declared.reply.Reply.{Reply}
use Rattle.st_test.specs.Planar.{StValue}
use Rattle.st_verdict.specs.File.{IsFew, IsGraph, IsTree}
use Rattle.st_verdict.specs.Stages.{Then, goes_on}
use Rattle.st_verdict.specs.Verdict.{IsAccepted}
use Rattle.st_verdict.proofs.Public.{consistent, found, mixed, next_says, value_found}
use Rattle.st_words.specs.Words.{IsTask}
use Rattle.st_words.specs.declared.words.Task.TheVariants.{Session}
use Rattle.stdraw_core.specs.Answer.{Asks, AnswersTask, IsAnswer}
use Rattle.stdraw_core.specs.Headline.{IsScriptFile, IsSessionFile, SessionHeadline, SessionHeadlineFor}
use Rattle.stdraw_core.specs.Run.{EndsBy, IsDone, IsTold}
use Rattle.stdraw_core.specs.Session.{AnswersRecords, AnswersScript, AnswersSession, AnswersTree, AreFewRecords, IsScriptIn, calls_of, first_value, reply_lines, so_far}
use Rattle.stdraw_core.proofs.HeadlineLemmas.{ending, same_bytes}
use Rattle.stdraw_core.proofs.OneAnswer.{asks_one}
use Rattle.stdraw_core.proofs.SessionLemmas.{first_state}
use Rattle.stdraw_core.proofs.SessionOne.{SessionFacts, session_one}
use Rattle.stdraw_core.proofs.SessionRuns.{run_answers, run_found}

-- where a run of all records is, the answer is the output of its lines
run_answered : (bytes : List ℕ) (g : InputGraph) (st : StValue) (items : List ScriptItem) → IsScriptFile bytes g st items → (rs : List Reply) (last : SessionValue) → Runs (first_value g st) (calls_of items) rs last
    → AnswersSession bytes (Ok (reply_lines (calls_of items) rs))
run_answered bytes g st items file rs last runs =
    goes_on tt file.planar.few (goes_on file.planar.tree file.planar.text (goes_on items file.script (goes_on g file.planar.graph
    (goes_on tt file.few (goes_on st file.planar.planar (run_answers (first_value g st) last (calls_of items) rs 0 [] runs))))))

pub script_given : SessionFacts → (bytes : List ℕ) (g : InputGraph) (st : StValue) (items : List ScriptItem) → IsScriptFile bytes g st items → (rs : List Reply) (last : SessionValue)
    → Runs (first_value g st) (calls_of items) rs last → (r : Refusal) → AnswersSession bytes (Err r) → ⊥
script_given facts bytes g st items file rs last runs r h =
    let lines : List ℕ = reply_lines (calls_of items) rs in
    mixed lines r (session_one facts bytes (Ok lines) (Err r) (run_answered bytes g st items file rs last runs) h)

-- an output is that of a run of all records
script_found : SessionFacts → (bytes out : List ℕ) → AnswersSession bytes (Ok out) → (old new : SinkState) → Gains old new out → IsSessionFile bytes old new
script_found facts bytes out h old new gains =
    let a = value_found (IsFew bytes) (λ _. Then (IsTree bytes) AnswersTree) out h in
    let b = value_found (IsTree bytes) AnswersTree out a.goes in
    let c = value_found (IsScriptIn b.value) (λ items. Then (IsGraph b.value) (AnswersRecords items)) out b.goes in
    let d = value_found (IsGraph b.value) (AnswersRecords c.value) out c.goes in
    let e = value_found (AreFewRecords c.value) (λ _. Then (IsAccepted d.value) (AnswersScript c.value d.value)) out d.goes in
    let f = value_found (IsAccepted d.value) (AnswersScript c.value d.value) out e.goes in
    let run = run_found (calls_of c.value) 0 (so_far (first_value d.value f.value) []) out f.goes in
    let first = first_state d.value f.value (consistent b.value d.value d.is) (found d.value f.value f.is) in
    record {
      g = d.value;
      st = f.value;
      items = c.value;
      file = record { planar = record { few = a.is; tree = b.value; text = b.is; graph = d.is; planar = f.is }; script = c.is; few = e.is };
      replies = run.replies;
      last = run.last;
      runs = run.runs;
      state = facts.session (first_value d.value f.value) run.last (calls_of c.value) run.replies first run.runs;
      gains = subst (Gains old new) run.text gains;
    }

-- ---- the words of a session
session_says : (words : List (List ℕ)) (left : Option (List ℕ)) (bytes told : List ℕ) → IsTask words Session → left ≡ Some bytes → IfSome left (λ z. z ≡ told)
    → (answer : Result (List ℕ) Refusal) → IsAnswer words told answer → AnswersSession bytes answer
session_says words left bytes told is e f answer h =
    subst (λ z. AnswersSession z answer) (sym (same_bytes left bytes told e f)) (next_says (Asks words) (λ task. AnswersTask task told) (asks_one words) Session is answer h)

module _ (facts : SessionFacts) (words : List (List ℕ)) (src src' : SourceState) (out out' : SinkState) (bytes : List ℕ) (is : IsTask words Session) (left : src.left ≡ Some bytes) where
  session_whole : IsDone words src src' out out' → SessionHeadlineFor bytes out out' status.Done
  session_whole h = record {
    answered = λ g st items file rs last runs. refl;
    right = λ e. script_found facts bytes h.text (session_says words src.left bytes h.ready.bytes is left h.ready.told (Ok h.text) h.ready.answer) out out' h.gains;
    nothing = λ n. absurd (n refl);
  }

  not_answered : (diag diag' : SinkState) (s : Status) → s ≢ status.Done → out' ≡ out → IsTold words src src' diag diag' s → SessionHeadlineFor bytes out out' s
  not_answered diag diag' s other before h =
      let r = h.refused in
      let answer = session_says words src.left bytes r.bytes is left r.told (Err h.refusal) r.answer in
      record {
        answered = λ g st items file rs last runs. absurd (script_given facts bytes g st items file rs last runs h.refusal answer);
        right = λ e. absurd (other e);
        nothing = λ n. before;
      }

pub session_headline : SessionFacts → (words : List (List ℕ)) (src src' : SourceState) (out out' diag diag' : SinkState) (s : Status)
    → EndsBy words src src' out out' diag diag' s → SessionHeadline words src src' out out' s
session_headline facts words src src' out out' diag diag' s h bytes is left =
    ending words src src' out out' diag diag' (SessionHeadlineFor bytes out out') (session_whole facts words src src' out out' bytes is left) (not_answered facts words src src' out out' bytes is left diag diag') s h
