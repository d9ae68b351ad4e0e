-- The records of a session, carried out one after the other.
use Rattle.std.proofs.Common.{◌≡◌, ℕ, zero, suc, ◌+◌, ◌<◌, ◌≤◌, List, [], ◌∷◌, length, get_or, drop, refl, sym, ap, ◌∙◌, subst, drop-cons, arith}
use Rattle.std.specs.Prelude.{Result, Ok, Err, OnOk, IfErr}
use Rattle.std.proofs.lemmas.List.{drop_all}
use Rattle.st_input.specs.InputGraph.{InputGraph, IsConsistent}
use Rattle.st_report.specs.declared.stop.Refusal.{Refusal}
use Rattle.st_report.specs.declared.stop.Stop.{Stop}
use Rattle.st_report.specs.declared.stop.Stop.TheVariants.{NoMemory, ReadFault, Refused, WriteFault}
use Rattle.st_script.specs.declared.items.ScriptItem.{ScriptItem}
use Rattle.st_session.specs.Runs.{Applies, Edit as Change, asking, editing}
use Rattle.st_session.specs.States.{IsState, SessionState, SessionValue}
use Rattle.st_session.specs.declared.faults.EditFault.{EditFault}
use Rattle.st_session.specs.declared.faults.EditFault.TheVariants as fault
use Rattle.st_test.specs.Planar.{StValue}
use Rattle.st_verdict.specs.Stages.{goes_on, refuses}
use Rattle.st_verdict.specs.Stops.{IsStop, StopsAt}
use Rattle.st_verdict.specs.Verdict.{IsFound}
use Rattle.stdraw_core.specs.Session.{AnswersCalls, Carries, IsAnsweredAsk, IsAsked, IsEditFault, SoFar, call_of, calls_of, edit_result, edit_stop, first_value, so_far}

-- ---- one record
module _ (k : ℕ) (c : Change) (x : SessionValue) (text : List ℕ) where
  pub edit_carried : (y : SessionValue) (r : Result (Unit {0}) EditFault) → OnOk r (Applies x c y) → OnOk (edit_result k r) (Carries k (editing c) (so_far x text) (Ok (so_far y text)))
  edit_carried y (Ok v) h = (h, refl)
  edit_carried y (Err f) h = tt

  fault_stops : (f : EditFault) → IsEditFault x c f → IsStop (Carries k (editing c) (so_far x text)) (edit_stop k f)
  fault_stops (fault.UsedVertex n) h = record { fault = fault.UsedVertex n; holds = h; is = refl }
  fault_stops (fault.UsedEdge n) h = record { fault = fault.UsedEdge n; holds = h; is = refl }
  fault_stops (fault.UnknownVertex n) h = record { fault = fault.UnknownVertex n; holds = h; is = refl }
  fault_stops (fault.UnknownEdge n) h = record { fault = fault.UnknownEdge n; holds = h; is = refl }
  fault_stops fault.Loop h = record { fault = fault.Loop; holds = h; is = refl }
  fault_stops (fault.NotAt e v) h = record { fault = fault.NotAt e v; holds = h; is = refl }
  fault_stops (fault.TooManyVertices n) h = record { fault = fault.TooManyVertices n; holds = h; is = refl }
  fault_stops (fault.TooManyEdges m) h = record { fault = fault.TooManyEdges m; holds = h; is = refl }
  fault_stops fault.OuterCorner h = record { fault = fault.OuterCorner; holds = h; is = refl }
  fault_stops (fault.Cycle t u) h = record { fault = fault.Cycle t u; holds = h; is = refl }
  fault_stops fault.OtherFace h = record { fault = fault.OtherFace; holds = h; is = refl }
  fault_stops (fault.Source v) h = record { fault = fault.Source v; holds = h; is = refl }
  fault_stops (fault.Sink v) h = record { fault = fault.Sink v; holds = h; is = refl }
  fault_stops fault.NoMemory h = tt

  pub edit_refused : (r : Result (Unit {0}) EditFault) → IfErr r (IsEditFault x c) → StopsAt (Carries k (editing c) (so_far x text)) (edit_result k r)
  edit_refused (Ok v) h = tt
  edit_refused (Err f) h = fault_stops f h

-- ---- the records that are left
-- what the records from the i-th on answer from here is what all answer from the beginning
abbrev pub AnswersRest : List ScriptItem → ℕ → SoFar → SoFar → Type 0
AnswersRest items i start z = (answer : Result (List ℕ) Refusal) → AnswersCalls i (calls_of (drop i items)) z answer → AnswersCalls 0 (calls_of items) start answer

pub rest_whole : (items : List ScriptItem) (start : SoFar) → AnswersRest items 0 start start
rest_whole items start answer h = h

module _ (items : List ScriptItem) (i : ℕ) (d : ScriptItem) (there : i < length items) (start z : SoFar) (rest : AnswersRest items i start z) where
  -- one record and those behind it
  one_more : (answer : Result (List ℕ) Refusal) → AnswersCalls i (call_of (get_or items i d) ∷ calls_of (drop (suc i) items)) z answer → AnswersCalls 0 (calls_of items) start answer
  one_more answer h = rest answer (subst (λ (l : List ScriptItem). AnswersCalls i (calls_of l) z answer) (sym (drop-cons items i d there)) h)

  pub rest_step : (z' : SoFar) → Carries i (call_of (get_or items i d)) z (Ok z') → AnswersRest items (i + 1) start z'
  rest_step z' h answer k =
      let next : i + 1 ≡ suc i = omega arith in
      one_more answer (goes_on z' h (subst (λ (j : ℕ). AnswersCalls j (calls_of (drop j items)) z' answer) next k))

  pub rest_stop : (stop : Stop) → IsStop (Carries i (call_of (get_or items i d)) z) stop → IsStop (AnswersCalls 0 (calls_of items) start) stop
  rest_stop (Refused r) h = one_more (Err r) (refuses r h refl)
  rest_stop ReadFault h = absurd h
  rest_stop WriteFault h = absurd h
  rest_stop NoMemory h = tt

-- no record is left
pub rest_end : (items : List ScriptItem) (i : ℕ) (start z : SoFar) → length items ≤ i → AnswersRest items i start z → AnswersCalls 0 (calls_of items) start (Ok z.text)
rest_end items i start z end rest = rest (Ok z.text) (subst (λ (l : List ScriptItem). AnswersCalls i (calls_of l) z (Ok z.text)) (sym (drop_all i items end)) refl)

-- ---- the first state
pub first_state : (g : InputGraph) (st : StValue) → IsConsistent g → IsFound g st → (let x : SessionState = (first_value g st).state in IsState x)
first_state g st tables is = record {
  source = st.source;
  sink = st.sink;
  planar = is.planar;
  vertices = tables.vertex_names ∙ sym is.vertices;
  edges = tables.edge_names ∙ ap length (sym is.ends);
  vertices_differ = tables.different;
  edges_differ = tables.edges_different;
}
