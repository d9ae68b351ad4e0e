-- What a session answers: the records of a file, carried out one after the other on its graph.
-- Letters: g graph of the file, st planar st-graph, x and y values of a session, c edit or call, k number of a
-- record, u and v names of vertices, r refusal or reply.
--   IsScriptIn tree              the records of the tree, or its first bad record
--   AreFewRecords items          as many as the limit at most
--   first_value g st             the session that begins with the graph of the file
--   calls_of items               what the records call for
--   edit_stop k f, ask_stop f    how a fault of record k stops a run
--   IsStoppedBy stop P r         the refusal tells a fault that meets P
--   reply_line u v r             the line of a question
--   Carries k c z                the session and the text after a call, or why record k is refused
--   AnswersCalls k cs z          the text after all calls, or why the first refused record is refused
--   AnswersScript items g st     the same of the records of a file with a planar st-graph
--   AnswersRecords items g       the limit of records comes before the test of the graph
--   AnswersTree, AnswersSession  the same of a tree, and of the bytes of a file
--   reply_lines cs rs            one line for each question, with its reply
use Rattle.std.specs.Prelude.{◌≡◌, ℕ, suc, ℤ, pos, ◌<◌, ◌≤◌, List, [], ◌∷◌, ◌++◌, length, map, Result, Ok, Err}
use Rattle.gml_core.specs.Trees.{Entries}
use Rattle.st_ids.specs.declared.limits.TheConstants.{MOST_EDGES, MOST_RECORDS, MOST_VERTICES}
use Rattle.st_input.specs.InputGraph.{InputGraph}
use Rattle.st_input.specs.declared.fault.ShapeFault.TheVariants.{TooManyEdges, TooManyVertices}
use Rattle.st_report.specs.declared.stop.BadEdit.TheVariants as bad_edit
use Rattle.st_report.specs.declared.stop.Refusal.{Refusal}
use Rattle.st_report.specs.declared.stop.Refusal.TheVariants.{BadRecord, Edit, Shape, TooManyRecords, UnknownVertex}
use Rattle.st_report.specs.declared.stop.Stop.{Stop}
use Rattle.st_report.specs.declared.stop.Stop.TheVariants.{NoMemory, Refused}
use Rattle.st_script.specs.Script.{IsScript, IsScriptFault}
use Rattle.st_script.specs.declared.fault.ScriptFault.TheVariants as script_fault
use Rattle.st_script.specs.declared.items.ScriptItem.{ScriptItem}
use Rattle.st_script.specs.declared.items.ScriptItem.TheVariants as item
use Rattle.st_session.specs.Edits.{IsInsertFault, IsRemoveFault, IsSplitFault}
use Rattle.st_session.specs.Replies.{IsAskFault, IsReply}
use Rattle.st_session.specs.Runs.{Applies, Call, Edit as Change, asking, by_insert, by_removal, by_split, editing}
use Rattle.st_session.specs.States.{SessionState, SessionValue}
use Rattle.st_session.specs.declared.faults.AskFault.{AskFault}
use Rattle.st_session.specs.declared.faults.AskFault.TheVariants as ask_fault
use Rattle.st_session.specs.declared.faults.EditFault.{EditFault}
use Rattle.st_session.specs.declared.faults.EditFault.TheVariants as edit_fault
use Rattle.st_session.specs.declared.reply.Reply.{Reply}
use Rattle.st_test.specs.Planar.{StValue}
use Rattle.st_verdict.specs.File.{IsFew, IsGraph, IsTree}
use Rattle.st_verdict.specs.Stages.{IsToldBy, Then}
use Rattle.st_verdict.specs.Verdict.{IsAccepted}
use Rattle.stdraw_core.specs.Query.{line_of_pair}

-- the records of the tree; a bad record is refused, the first of them
abbrev pub IsScriptIn : Entries → Result (List ScriptItem) Refusal → Type 0
IsScriptIn tree (Ok items) = IsScript tree items
IsScriptIn tree (Err r) = IsToldBy (λ (at : ℕ). BadRecord at) (λ at. IsScriptFault tree (script_fault.BadRecord at)) r

-- more records than the limit are refused
abbrev pub AreFewRecords : List ScriptItem → Result (Unit {0}) Refusal → Type 0
AreFewRecords items (Ok _) = length items ≤ MOST_RECORDS
AreFewRecords items (Err r) = (r ≡ TooManyRecords (length items)) × (MOST_RECORDS < length items)

-- the session that begins with the graph of the file, its names and its outer end, within the limits of a file
abbrev pub first_value : InputGraph → StValue → SessionValue
first_value g st = record {
  state = record { graph = st.map.graph; vertex_names = g.vertex_names; edge_names = g.edge_names; outer = st.outer };
  max_vertices = MOST_VERTICES;
  max_edges = MOST_EDGES;
}

-- the edit or the question that a record is
abbrev pub call_of : ScriptItem → Call
call_of (item.Split edge vertex new_edge) = editing (by_split edge vertex new_edge)
call_of (item.Insert edge tail tail_after head head_after) = editing (by_insert (record { edge = edge; tail = tail; tail_after = tail_after; head = head; head_after = head_after }))
call_of (item.Remove edge) = editing (by_removal edge)
call_of (item.Ask from to) = asking from to

abbrev pub calls_of : List ScriptItem → List Call
calls_of items = map call_of items

-- ---- refusals
abbrev pub IsEditFault : SessionValue → Change → EditFault → Type 0
IsEditFault x (by_split edge vertex new_edge) f = IsSplitFault x edge vertex new_edge f
IsEditFault x (by_insert names) f = IsInsertFault x names f
IsEditFault x (by_removal edge) f = IsRemoveFault x edge f

-- how a fault of an edit stops a run; the limits of vertices and edges are those of a file
abbrev pub edit_stop : ℕ → EditFault → Stop
edit_stop k (edit_fault.UsedVertex n) = Refused (Edit k (bad_edit.UsedVertex n))
edit_stop k (edit_fault.UsedEdge n) = Refused (Edit k (bad_edit.UsedEdge n))
edit_stop k (edit_fault.UnknownVertex n) = Refused (Edit k (bad_edit.UnknownVertex n))
edit_stop k (edit_fault.UnknownEdge n) = Refused (Edit k (bad_edit.UnknownEdge n))
edit_stop k edit_fault.Loop = Refused (Edit k bad_edit.Loop)
edit_stop k (edit_fault.NotAt edge vertex) = Refused (Edit k (bad_edit.NotAt edge vertex))
edit_stop k (edit_fault.TooManyVertices n) = Refused (Shape (TooManyVertices n))
edit_stop k (edit_fault.TooManyEdges m) = Refused (Shape (TooManyEdges m))
edit_stop k edit_fault.OuterCorner = Refused (Edit k bad_edit.OuterCorner)
edit_stop k (edit_fault.Cycle tail head) = Refused (Edit k (bad_edit.Cycle tail head))
edit_stop k edit_fault.OtherFace = Refused (Edit k bad_edit.OtherFace)
edit_stop k (edit_fault.Source vertex) = Refused (Edit k (bad_edit.Source vertex))
edit_stop k (edit_fault.Sink vertex) = Refused (Edit k (bad_edit.Sink vertex))
edit_stop k edit_fault.NoMemory = NoMemory

abbrev pub edit_result : ℕ → Result (Unit {0}) EditFault → Result (Unit {0}) Stop
edit_result k (Ok v) = Ok v
edit_result k (Err f) = Err (edit_stop k f)

-- how a fault of a question stops a run
abbrev pub ask_stop : AskFault → Stop
ask_stop (ask_fault.UnknownVertex n) = Refused (UnknownVertex n)
ask_stop ask_fault.NoMemory = NoMemory

-- the refusal tells a fault that meets P
pub record IsStoppedBy {F : Type 0} (stop : F → Stop) (P : F → Type 0) (r : Refusal) : Type 0 where
  pub fault : F
  pub holds : P fault
  pub is : stop fault ≡ Refused r

-- ---- the answer
-- the line of a question: both names, the answer, the two numbers of each vertex
abbrev pub reply_line : ℤ → ℤ → Reply → List ℕ
reply_line u v r = line_of_pair u v r.reaches (record { x = pos r.from_x; y = pos r.from_y }) (record { x = pos r.to_x; y = pos r.to_y })

-- a session, and the lines of the questions so far
pub record SoFar : Type 0 where
  pub session : SessionValue
  pub text : List ℕ

abbrev pub so_far : SessionValue → List ℕ → SoFar
so_far x text = record { session = x; text = text }

-- the reply to a question in a state, or the first of its names that is unknown
abbrev pub IsAsked : ℤ → ℤ → SessionState → Result Reply Refusal → Type 0
IsAsked u v x (Ok reply) = IsReply x u v reply
IsAsked u v x (Err r) = IsStoppedBy ask_stop (IsAskFault x u v) r

-- the line of a question has the reply of the state
abbrev pub IsAnsweredAsk : ℤ → ℤ → SessionState → List ℕ → List ℕ → Type 0
IsAnsweredAsk u v x text text' = (reply : Reply) × IsReply x u v reply × (text' ≡ text ++ reply_line u v reply)

-- An edit leads to the next session, a question to one line more, with the reply of the present state. Else the
-- record is refused.
abbrev pub Carries : ℕ → Call → SoFar → Result SoFar Refusal → Type 0
Carries k (editing c) z (Ok z') = Applies z.session c z'.session × (z'.text ≡ z.text)
Carries k (editing c) z (Err r) = IsStoppedBy (edit_stop k) (IsEditFault z.session c) r
Carries k (asking u v) z (Ok z') = (z'.session ≡ z.session) × IsAnsweredAsk u v z.session.state z.text z'.text
Carries k (asking u v) z (Err r) = IsAsked u v z.session.state (Err r)

-- the lines of all questions, or the refusal of the first refused record; k is the number of the first call
abbrev pub AnswersCalls : ℕ → List Call → SoFar → Result (List ℕ) Refusal → Type 0
AnswersCalls k [] z answer = answer ≡ Ok z.text
AnswersCalls k (c ∷ cs) z answer = Then (Carries k c z) (AnswersCalls (suc k) cs) answer

-- what the records of a file with a planar st-graph answer
abbrev pub AnswersScript : List ScriptItem → InputGraph → StValue → Result (List ℕ) Refusal → Type 0
AnswersScript items g st = AnswersCalls 0 (calls_of items) (so_far (first_value g st) [])

-- with a graph of which nothing is known: the limit of records comes first, and then the test
abbrev pub AnswersRecords : List ScriptItem → InputGraph → Result (List ℕ) Refusal → Type 0
AnswersRecords items g = Then (AreFewRecords items) (λ _. Then (IsAccepted g) (AnswersScript items g))

-- a bad record comes before the faults of the graph and the limits of vertices and edges
abbrev pub AnswersTree : Entries → Result (List ℕ) Refusal → Type 0
AnswersTree tree = Then (IsScriptIn tree) (λ items. Then (IsGraph tree) (AnswersRecords items))

-- what a session answers to the bytes of a file
abbrev pub AnswersSession : List ℕ → Result (List ℕ) Refusal → Type 0
AnswersSession bytes = Then (IsFew bytes) (λ _. Then (IsTree bytes) AnswersTree)

-- ---- the lines
-- one line for each question, with its reply
abbrev pub reply_lines : List Call → List Reply → List ℕ
reply_lines [] rs = []
reply_lines (editing c ∷ cs) rs = reply_lines cs rs
reply_lines (asking u v ∷ cs) [] = []
reply_lines (asking u v ∷ cs) (r ∷ rs) = reply_line u v r ++ reply_lines cs rs
