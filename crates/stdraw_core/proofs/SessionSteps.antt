-- What is read for a session, and what is never refused to it.
use Rattle.std.proofs.Common.{◌≡◌, ℕ, suc, ◌<◌, ◌≤◌, List, [], ◌∷◌, length, Some, refl, sym, subst, arith}
use Rattle.std.specs.Prelude.{Result, Ok, Err, IsErrOf}
use Rattle.std.specs.Io.KnownBytes.{Consumes}
use Rattle.gml_core.specs.Reading.{IsFirstFault}
use Rattle.gml_core.specs.Trees.{Entries}
use Rattle.st_ids.specs.declared.limits.TheConstants.{MOST_BYTES, MOST_EDGES, MOST_VERTICES}
use Rattle.st_input.specs.FirstFault.{shape_fault}
use Rattle.st_input.specs.InputGraph.{InputGraph}
use Rattle.st_input.specs.declared.fault.ShapeFault.TheVariants.{TooManyEdges, TooManyVertices}
use Rattle.st_port.specs.Reading.{Reads}
use Rattle.st_port.specs.Streams.{SourceState}
use Rattle.st_port.specs.declared.port.ReadEnd.TheVariants as read
use Rattle.st_report.specs.declared.stop.BadEdit.TheVariants as bad_edit
use Rattle.st_report.specs.declared.stop.Refusal.{Refusal}
use Rattle.st_report.specs.declared.stop.Refusal.TheVariants.{BadRecord, Edit, Gml, Shape, TooLongDrawing, TooManyBytes, TooManyRecords, UnknownVertex, Words}
use Rattle.st_report.specs.declared.stop.Stop.{Stop}
use Rattle.st_report.specs.declared.stop.Stop.TheVariants.{NoMemory, ReadFault, Refused, WriteFault}
use Rattle.st_script.specs.Script.{IsScriptFault}
use Rattle.st_script.specs.declared.fault.ScriptFault.TheVariants as script_fault
use Rattle.st_session.specs.Runs.{Call, asking, editing}
use Rattle.st_session.specs.declared.faults.AskFault.{AskFault}
use Rattle.st_session.specs.declared.faults.AskFault.TheVariants as ask_fault
use Rattle.st_session.specs.declared.faults.EditFault.{EditFault}
use Rattle.st_session.specs.declared.faults.EditFault.TheVariants as fault
use Rattle.st_verdict.specs.File.{IsFew, IsGraph, IsTree}
use Rattle.st_verdict.specs.Stages.{Then, goes_on, refuses}
use Rattle.st_verdict.specs.Stops.{Gives}
use Rattle.st_verdict.specs.Verdict.{IsAccepted}
use Rattle.st_words.specs.Words.{IsTask}
use Rattle.st_words.specs.declared.words.Task.TheVariants.{Session}
use Rattle.stdraw_core.specs.Run.{Decides}
use Rattle.stdraw_core.specs.Session.{AnswersCalls, AnswersRecords, AnswersScript, AnswersSession, AnswersTree, AreFewRecords, Carries, IsScriptIn, SoFar, ask_stop, calls_of, edit_stop, first_value, so_far}
use Rattle.stdraw_core.proofs.RunLemmas.{AreRead, IsEarly, NeverGives, bytes_early, drawing_early, failed_read, failed_rose, leaves_end, never_accepted, never_then, never_told, read_bytes, same_stop, words_early}

-- ---- refusals that a session never gives
same_refused : (r s : Refusal) → Refused s ≡ Refused r → r ≡ s
same_refused r s e = cc

no_refusal : (r : Refusal) → NoMemory ≡ Refused r → ⊥
no_refusal r e = cc

module _ (r : Refusal) (early : IsEarly r) where
  never_edit : (k : ℕ) (f : EditFault) → edit_stop k f ≡ Refused r → ⊥
  never_edit k (fault.UsedVertex n) e = early.edit k (bad_edit.UsedVertex n) (same_refused r _ e)
  never_edit k (fault.UsedEdge n) e = early.edit k (bad_edit.UsedEdge n) (same_refused r _ e)
  never_edit k (fault.UnknownVertex n) e = early.edit k (bad_edit.UnknownVertex n) (same_refused r _ e)
  never_edit k (fault.UnknownEdge n) e = early.edit k (bad_edit.UnknownEdge n) (same_refused r _ e)
  never_edit k fault.Loop e = early.edit k bad_edit.Loop (same_refused r _ e)
  never_edit k (fault.NotAt d v) e = early.edit k (bad_edit.NotAt d v) (same_refused r _ e)
  never_edit k (fault.TooManyVertices n) e = early.shape (TooManyVertices n) (same_refused r _ e)
  never_edit k (fault.TooManyEdges n) e = early.shape (TooManyEdges n) (same_refused r _ e)
  never_edit k fault.OuterCorner e = early.edit k bad_edit.OuterCorner (same_refused r _ e)
  never_edit k (fault.Cycle t u) e = early.edit k (bad_edit.Cycle t u) (same_refused r _ e)
  never_edit k fault.OtherFace e = early.edit k bad_edit.OtherFace (same_refused r _ e)
  never_edit k (fault.Source v) e = early.edit k (bad_edit.Source v) (same_refused r _ e)
  never_edit k (fault.Sink v) e = early.edit k (bad_edit.Sink v) (same_refused r _ e)
  never_edit k fault.NoMemory e = no_refusal r e

  never_ask : (f : AskFault) → ask_stop f ≡ Refused r → ⊥
  never_ask (ask_fault.UnknownVertex n) e = early.unknown n (same_refused r _ e)
  never_ask ask_fault.NoMemory e = no_refusal r e

  never_carried : (k : ℕ) (c : Call) (z : SoFar) → NeverGives r (Carries k c z)
  never_carried k (editing c) z h = never_edit k h.fault h.is
  never_carried k (asking u v) z h = never_ask h.fault h.is

  no_answer : (a : List ℕ) → (let x : Result (List ℕ) Refusal = Err r in x) ≡ Ok a → ⊥
  no_answer a e = cc

  never_called : (cs : List Call) (k : ℕ) (z : SoFar) → NeverGives r (AnswersCalls k cs z)
  never_called [] k z = λ h. no_answer z.text h
  never_called (c ∷ cs) k z = never_then r (Carries k c z) (AnswersCalls (suc k) cs) (never_carried k c z) (λ z'. never_called cs (suc k) z')

  pub never_tree : (tree : Entries) → NeverGives r (AnswersTree tree)
  never_tree tree =
      never_then r (IsScriptIn tree) (λ items. Then (IsGraph tree) (AnswersRecords items))
      (never_told (λ (at : ℕ). BadRecord at) (λ at. IsScriptFault tree (script_fault.BadRecord at)) r early.bad)
      (λ items. never_then r (IsGraph tree) (AnswersRecords items) (never_told (λ f. Shape f) (λ f. shape_fault tree MOST_VERTICES MOST_EDGES ≡ Some f) r early.shape)
      (λ g. never_then r (AreFewRecords items) (λ _. Then (IsAccepted g) (AnswersScript items g)) (λ h. early.many (length items) h.0)
      (λ _. never_then r (IsAccepted g) (AnswersScript items g) (never_accepted r early g) (λ st. never_called (calls_of items) 0 (so_far (first_value g st) [])))))

  pub never_read : (bytes : List ℕ) → NeverGives r (Then (IsTree bytes) AnswersTree)
  never_read bytes = never_then r (IsTree bytes) AnswersTree (never_told (λ f. Gml f) (IsFirstFault bytes) r early.gml) never_tree

-- bytes are not refused for the words, whatever was answered to them
pub session_for_words : (bytes : List ℕ) (result : Result (List ℕ) Stop) → Gives (Then (IsTree bytes) AnswersTree) result → IsErrOf result (Refused Words) → ⊥
session_for_words bytes (Ok out) gives e = absurd (no_stop e)
  where
    no_stop : (let a : Result (List ℕ) Stop = Ok out in a) ≡ Err (Refused Words) → ⊥
    no_stop e = cc
session_for_words bytes (Err stop) gives e = never_read Words words_early bytes (subst (λ z. Gives (Then (IsTree bytes) AnswersTree) (Err z)) (same_stop stop (Refused Words) e) gives)

-- ---- what was read
module _ {S A : Type 0} (state : S → SourceState) (old new : S) (words : List (List ℕ)) (asked : IsTask words Session) (made : A → List ℕ → Type 0) where
  pub session_failed : Reads state old new MOST_BYTES made (Err read.Failed) → Decides words (state old) (state new) (Err ReadFault)
  session_failed h =
      let failed = failed_read state old new MOST_BYTES made h in
      record { task = Session; asked = asked; on_file = λ off. off; read = failed; rose = failed_rose (state old) (state new) MOST_BYTES failed }

  pub session_too_long : Reads state old new MOST_BYTES made (Err read.TooLong) → Decides words (state old) (state new) (Err (Refused TooManyBytes))
  session_too_long h =
      let consumed : Consumes (state old).left (state new).left h.taken = subst (λ z. Consumes (state old).left (state z).left h.taken) (sym h.ends.0) h.takes.consumed in
      let b = read_bytes (state old).left (state new).left h.taken consumed in
      let over : MOST_BYTES < length h.taken = h.ends.1 in
      record {
        bytes = b.bytes;
        told = b.told;
        answer = goes_on Session asked (refuses TooManyBytes (refl, let l : MOST_BYTES < length b.bytes = omega (arith, b.most) in l) refl);
        leaves = record { taken = h.taken; consumed = consumed; over = over; most = h.ends.2 };
      }

  module _ (v : A) (h : Reads state old new MOST_BYTES made (Ok v)) where
    all_read : AreRead (state old).left (state new).left h.taken
    all_read = read_bytes (state old).left (state new).left h.taken (subst (λ z. Consumes (state old).left (state z).left h.taken) (sym h.ends.0) h.takes.consumed)

    within : (answer : Result (List ℕ) Refusal) → Then (IsTree h.taken) AnswersTree answer → AnswersSession all_read.bytes answer
    within answer k =
        let few : length h.taken ≤ MOST_BYTES = h.ends.3 in
        let here : AnswersSession h.taken answer = goes_on tt few k in
        subst (λ z. AnswersSession z answer) (all_read.whole h.ends.1) here

    decided : (result : Result (List ℕ) Stop) → Gives (Then (IsTree h.taken) AnswersTree) result → Decides words (state old) (state new) result
    decided (Ok out) gives = record { bytes = all_read.bytes; told = all_read.told; answer = goes_on Session asked (within (Ok out) gives); task = Session; asked = asked; read = h.ends.1 }
    decided (Err (Refused r)) gives = record {
      bytes = all_read.bytes;
      told = all_read.told;
      answer = goes_on Session asked (within (Err r) gives);
      leaves = leaves_end (Then (IsTree h.taken) AnswersTree) (never_read TooManyBytes bytes_early h.taken) (never_read TooLongDrawing drawing_early h.taken) (state old).left (state new).left h.ends.1 r gives;
    }
    decided (Err ReadFault) gives = absurd gives
    decided (Err WriteFault) gives = absurd gives
    decided (Err NoMemory) gives = tt

    pub session_decided : (result : Result (List ℕ) Stop) → ((b : List ℕ) → made v b → Gives (Then (IsTree b) AnswersTree) result) → Decides words (state old) (state new) result
    session_decided result gives = decided result (gives h.taken h.ends.2)
