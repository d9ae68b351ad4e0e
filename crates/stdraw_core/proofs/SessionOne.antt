-- A session has one answer.
use Rattle.std.proofs.Common.{◌≡◌, ℕ, suc, ◌<◌, ◌≤◌, ℤ, inl, inr, List, [], ◌∷◌, ◌++◌, length, refl, sym, ap, ◌∙◌, subst, arith}
use Rattle.std.specs.Prelude.{Result, Ok, Err}
use Rattle.gml_core.specs.Trees.{Entries}
use Rattle.st_ids.specs.declared.limits.TheConstants.{MOST_RECORDS}
use Rattle.st_input.specs.InputGraph.{InputGraph, IsConsistent}
use Rattle.st_report.specs.declared.stop.Refusal.{Refusal}
use Rattle.st_report.specs.declared.stop.Refusal.TheVariants.{BadRecord, TooManyRecords}
use Rattle.st_report.specs.declared.stop.Stop.{Stop}
use Rattle.st_report.specs.declared.stop.Stop.TheVariants.{NoMemory, Refused}
use Rattle.st_script.specs.Script.{IsScript, IsScriptFault}
use Rattle.st_script.specs.declared.fault.ScriptFault.{ScriptFault}
use Rattle.st_script.specs.declared.fault.ScriptFault.TheVariants as script_fault
use Rattle.st_script.specs.declared.items.ScriptItem.{ScriptItem}
use Rattle.st_session.specs.Replies.{IsAskFault, IsReply, OneReplyLaw}
use Rattle.st_session.specs.Runs.{Call, Edit as Change, SessionLaw, asking, at_end, edited, editing}
use Rattle.st_session.specs.States.{IsState, SessionState, SessionValue}
use Rattle.st_session.specs.declared.faults.AskFault.{AskFault}
use Rattle.st_session.specs.declared.faults.AskFault.TheVariants as ask_fault
use Rattle.st_session.specs.declared.faults.EditFault.{EditFault}
use Rattle.st_session.specs.declared.faults.EditFault.TheVariants as edit_fault
use Rattle.st_session.specs.declared.reply.Reply.{Reply}
use Rattle.st_test.specs.Planar.{StValue}
use Rattle.st_test.specs.PolesAnswer.{OnePolesAnswer}
use Rattle.st_verdict.specs.File.{IsFew, IsGraph, IsTree, OneGraph, OneTree}
use Rattle.st_verdict.specs.Stages.{IsOne, Then}
use Rattle.st_verdict.specs.Verdict.{IsAccepted}
use Rattle.st_verdict.proofs.Public.{accepted_one, consistent, err, few_one, found, ok, one_then, told_one}
use Rattle.stdraw_core.specs.Session.{AnswersCalls, AnswersRecords, AnswersScript, AnswersSession, AnswersTree, AreFewRecords, Carries, IsAsked, IsEditFault, IsScriptIn, IsStoppedBy, SoFar, ask_stop, calls_of, edit_stop, first_value, reply_line, so_far}
use Rattle.stdraw_core.proofs.SessionLemmas.{first_state}
use Rattle.stdraw_core.proofs.SessionOutcome.{done_or_fault, same_edit, same_fault}

-- what the crates below prove
pub record SessionFacts : Type 0 where
  pub poles : OnePolesAnswer
  pub tree : OneTree
  pub graph : OneGraph
  pub script : (text : Entries) (s t : List ScriptItem) → IsScript text s → IsScript text t → s ≡ t
  pub bad : (text : Entries) (f g : ScriptFault) → IsScriptFault text f → IsScriptFault text g → f ≡ g
  pub apart : (text : Entries) (s : List ScriptItem) (f : ScriptFault) → IsScript text s → IsScriptFault text f → ⊥
  pub session : SessionLaw
  pub reply : OneReplyLaw

-- ---- the faults of a record
same_refused : (r s : Refusal) → Refused r ≡ Refused s → r ≡ s
same_refused r s e = cc

no_refusal : (r : Refusal) → NoMemory ≡ Refused r → ⊥
no_refusal r e = cc

edit_refuses : (k : ℕ) (f : EditFault) (r : Refusal) → edit_stop k f ≡ Refused r → f ≡ edit_fault.NoMemory → ⊥
edit_refuses k f r e memory = no_refusal r (sym (ap (λ z. edit_stop k z) memory) ∙ e)

ask_refuses : (f : AskFault) (r : Refusal) → ask_stop f ≡ Refused r → f ≡ ask_fault.NoMemory → ⊥
ask_refuses f r e memory = no_refusal r (sym (ap ask_stop memory) ∙ e)

-- a question has one reply or one unknown name
module _ (law : OneReplyLaw) (x : SessionState) (is : IsState x) (u v : ℤ) where
  one_unknown : (f g : AskFault) → IsAskFault x u v f → IsAskFault x u v g → (f ≡ ask_fault.NoMemory → ⊥) → (g ≡ ask_fault.NoMemory → ⊥) → f ≡ g
  one_unknown (ask_fault.UnknownVertex n) (ask_fault.UnknownVertex m) h k a b = elim h [
    | inl t ↦ elim k [ inl s ↦ ap (λ z. ask_fault.UnknownVertex z) (t.0 ∙ sym s.0) | inr s ↦ absurd (t.1 s.1.0 s.1.1) ]
    | inr t ↦ elim k [ inl s ↦ absurd (s.1 t.1.0 t.1.1) | inr s ↦ ap (λ z. ask_fault.UnknownVertex z) (t.0 ∙ sym s.0) ]
  ]
  one_unknown ask_fault.NoMemory g h k a b = absurd (a refl)
  one_unknown (ask_fault.UnknownVertex n) ask_fault.NoMemory h k a b = absurd (b refl)

  known_asked : (r : Reply) (f : AskFault) → IsReply x u v r → IsAskFault x u v f → (f ≡ ask_fault.NoMemory → ⊥) → ⊥
  known_asked r (ask_fault.UnknownVertex n) h k a = elim k [ inl t ↦ t.1 h.u h.from_is | inr t ↦ t.2 h.v h.to_is ]
  known_asked r ask_fault.NoMemory h k a = a refl

  pub asked_one : IsOne (IsAsked u v x)
  asked_one (Ok a) (Ok b) h k = ok a b (law x u v a b is h k)
  asked_one (Ok a) (Err s) h k = absurd (known_asked a k.fault h k.holds (ask_refuses k.fault s k.is))
  asked_one (Err r) (Ok b) h k = absurd (known_asked b h.fault k h.holds (ask_refuses h.fault r h.is))
  asked_one (Err r) (Err s) h k =
      let same = one_unknown h.fault k.fault h.holds k.holds (ask_refuses h.fault r h.is) (ask_refuses k.fault s k.is) in
      err r s (same_refused r s (sym h.is ∙ ap ask_stop same ∙ k.is))

-- ---- one record
same_so_far : (a b : SoFar) → a.session ≡ b.session → a.text ≡ b.text → a ≡ b
same_so_far a b e f = ap (λ z. so_far z a.text) e ∙ ap (λ z. so_far b.session z) f

ok_same : (a b : Reply) → (let r : Result Reply Refusal = Ok a in r) ≡ Ok b → a ≡ b
ok_same a b e = cc

ok_err : (a : Reply) (r : Refusal) → (let o : Result Reply Refusal = Ok a in o) ≡ Err r → ⊥
ok_err a r e = cc

err_same : (r s : Refusal) → (let o : Result Reply Refusal = Err r in o) ≡ Err s → r ≡ s
err_same r s e = cc

module _ (law : OneReplyLaw) (k : ℕ) (z : SoFar) (is : IsState z.session.state) where
  same_change : (c : Change) (a b : SoFar) → Carries k (editing c) z (Ok a) → Carries k (editing c) z (Ok b) → a ≡ b
  same_change c a b h g = same_so_far a b (same_edit z.session is.vertices_differ is.edges_differ c a.session b.session h.0 g.0) (h.1 ∙ sym g.1)

  same_question : (u v : ℤ) (a b : SoFar) → Carries k (asking u v) z (Ok a) → Carries k (asking u v) z (Ok b) → a ≡ b
  same_question u v a b h g =
      let reply = ok_same h.1.0 g.1.0 (asked_one law z.session.state is u v (Ok h.1.0) (Ok g.1.0) h.1.1 g.1.1) in
      same_so_far a b (h.0 ∙ sym g.0) (h.1.2 ∙ ap (λ r. z.text ++ reply_line u v r) reply ∙ sym g.1.2)

  pub carries_one : (c : Call) → IsOne (Carries k c z)
  carries_one (editing c) (Ok a) (Ok b) h g = ok a b (same_change c a b h g)
  carries_one (editing c) (Ok a) (Err s) h g = absurd (done_or_fault z.session is.vertices_differ is.edges_differ c a.session g.fault h.0 g.holds (edit_refuses k g.fault s g.is))
  carries_one (editing c) (Err r) (Ok b) h g = absurd (done_or_fault z.session is.vertices_differ is.edges_differ c b.session h.fault g.0 h.holds (edit_refuses k h.fault r h.is))
  carries_one (editing c) (Err r) (Err s) h g =
      let same = same_fault z.session is.vertices_differ is.edges_differ c h.fault g.fault h.holds g.holds (edit_refuses k h.fault r h.is) (edit_refuses k g.fault s g.is) in
      err r s (same_refused r s (sym h.is ∙ ap (λ f. edit_stop k f) same ∙ g.is))
  carries_one (asking u v) (Ok a) (Ok b) h g = ok a b (same_question u v a b h g)
  carries_one (asking u v) (Ok a) (Err s) h g = absurd (ok_err h.1.0 s (asked_one law z.session.state is u v (Ok h.1.0) (Err s) h.1.1 g))
  carries_one (asking u v) (Err r) (Ok b) h g = absurd (ok_err g.1.0 r (sym (asked_one law z.session.state is u v (Err r) (Ok g.1.0) h g.1.1)))
  carries_one (asking u v) (Err r) (Err s) h g = err r s (err_same r s (asked_one law z.session.state is u v (Err r) (Err s) h g))

-- the state that a record leaves
pub carried_state : SessionLaw → (k : ℕ) (c : Call) (z z' : SoFar) → IsState z.session.state → Carries k c z (Ok z') → IsState z'.session.state
carried_state law k (editing c) z z' is h = law z.session z'.session (editing c ∷ []) [] is (edited h.0 at_end)
carried_state law k (asking u v) z z' is h = subst (λ (x : SessionValue). IsState x.state) (sym h.0) is

-- ---- all records
pub calls_one : SessionFacts → (cs : List Call) (k : ℕ) (z : SoFar) → IsState z.session.state → IsOne (AnswersCalls k cs z)
calls_one facts [] k z is = λ x y h g. h ∙ sym g
calls_one facts (c ∷ cs) k z is = one_then (Carries k c z) (AnswersCalls (suc k) cs) (carries_one facts.reply k z is c) (λ z' h. calls_one facts cs (suc k) z' (carried_state facts.session k c z z' is h))

pub script_answer_one : SessionFacts → (items : List ScriptItem) (g : InputGraph) (st : StValue) → IsConsistent g → IsAccepted g (Ok st) → IsOne (AnswersScript items g st)
script_answer_one facts items g st tables is = calls_one facts (calls_of items) 0 (so_far (first_value g st) []) (first_state g st tables (found g st is))

pub few_records_one : (items : List ScriptItem) → IsOne (AreFewRecords items)
few_records_one items (Ok a) (Ok b) h k = refl
few_records_one items (Ok a) (Err s) h k = absurd (omega (arith, h, k.1))
few_records_one items (Err r) (Ok b) h k = absurd (omega (arith, h.1, k))
few_records_one items (Err r) (Err s) h k = err r s (h.0 ∙ sym k.0)

pub records_one : SessionFacts → (items : List ScriptItem) (g : InputGraph) → IsConsistent g → IsOne (AnswersRecords items g)
records_one facts items g tables =
    one_then (AreFewRecords items) (λ _. Then (IsAccepted g) (AnswersScript items g)) (few_records_one items)
    (λ _ few. one_then (IsAccepted g) (AnswersScript items g) (accepted_one facts.poles g) (λ st is. script_answer_one facts items g st tables is))

pub script_one : SessionFacts → (tree : Entries) → IsOne (IsScriptIn tree)
script_one facts tree (Ok a) (Ok b) h k = ok a b (facts.script tree a b h k)
script_one facts tree (Ok a) (Err s) h k = absurd (facts.apart tree a (script_fault.BadRecord k.fault) h k.holds)
script_one facts tree (Err r) (Ok b) h k = absurd (facts.apart tree b (script_fault.BadRecord h.fault) k h.holds)
script_one facts tree (Err r) (Err s) h k =
    err r s (told_one (λ (at : ℕ). BadRecord at) (λ at. IsScriptFault tree (script_fault.BadRecord at)) (λ a b f g. same_place a b (facts.bad tree (script_fault.BadRecord a) (script_fault.BadRecord b) f g)) r s h k)
  where
    same_place : (a b : ℕ) → script_fault.BadRecord a ≡ script_fault.BadRecord b → a ≡ b
    same_place a b e = cc

pub tree_answer_one : SessionFacts → (tree : Entries) → IsOne (AnswersTree tree)
tree_answer_one facts tree =
    one_then (IsScriptIn tree) (λ items. Then (IsGraph tree) (AnswersRecords items)) (script_one facts tree)
    (λ items script. one_then (IsGraph tree) (AnswersRecords items) (facts.graph tree) (λ g graph. records_one facts items g (consistent tree g graph)))

pub session_one : SessionFacts → (bytes : List ℕ) → IsOne (AnswersSession bytes)
session_one facts bytes =
    one_then (IsFew bytes) (λ _. Then (IsTree bytes) AnswersTree) (few_one bytes)
    (λ _ few. one_then (IsTree bytes) AnswersTree (facts.tree bytes) (λ tree text. tree_answer_one facts tree))
