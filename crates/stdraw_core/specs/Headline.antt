-- What is promised of every drawing, of every query, of every bound, of every orientation, of every session and of
-- every check.
-- Letters: g graph of the file, st planar st-graph.
--   IsPlanarFile bytes g st     the bytes are those of a planar st-graph within the limits
--   IsDrawnFile                 the text of a right picture of it was written
--   HeadlineFor                 a drawing is written exactly where the file has a planar st-graph, and it is a right one
--   Headline                    so it is for each form, where nothing outside has failed
--   IsAnsweredFile              the lines of a query of its vertices were written
--   QueryHeadlineFor            lines are written exactly where the file has a planar st-graph with all names, and they are right
--   QueryHeadline               so it is for all pairs, where nothing outside has failed
--   IsBoundFile                 the lines about the bound of two of its vertices were written
--   LatticeHeadlineFor          lines are written exactly where the file has a planar st-graph with both names, and they are right
--   LatticeHeadline             so it is for all names, where nothing outside has failed
--   IsOrientable from to g      the graph has an orientation whose poles have these names
--   IsPlanarText out g st       the text is that of a planar st-graph within the limits of vertices and edges
--   IsOrientedText              it is that of the file's graph with some edges turned, from one of the names to the other
--   IsOrientationFile           the text of an orientation of the file was written
--   OrientHeadlineFor           that is so exactly where the file's graph has such an orientation
--   OrientHeadline              so it is for all names, where nothing outside has failed
--   IsScriptFile bytes g st items  the bytes are those of a planar st-graph with these records
--   IsSessionFile               one line for each question of the file was written, with its reply
--   SessionHeadlineFor          that is so exactly where all records of the file can be carried out
--   SessionHeadline             so it is where nothing outside has failed
--   IsCleanFile bytes d         the bytes are the text of a drawing in which nothing is wrong
--   IsAcceptedFile              the line of a clean drawing was written
--   CheckHeadlineFor            that line is written exactly where the file has a clean drawing
--   CheckHeadline               so it is where nothing outside has failed
--   AcceptsDrawings             what is drawn of a file is clean and short, and so a check accepts it
use Rattle.std.specs.Prelude.{◌≡◌, ◌≢◌, ◌≤◌, ℕ, ℤ, Bool, List, [], ◌∷◌, length, Some, Ok}
use Rattle.eps_core.specs.Text.{text}
use Rattle.gml_core.specs.Trees.{Entries}
use Rattle.gml_core.specs.Reading.{IsText}
use Rattle.st_input.specs.InputGraph.{InputGraph}
use Rattle.st_port.specs.Faults.{Rose}
use Rattle.st_port.specs.Streams.{SourceState, SinkState, Gains}
use Rattle.st_ids.specs.declared.limits.TheConstants.{MOST_DRAWING_BYTES, MOST_RECORDS}
use Rattle.st_script.specs.Script.{IsScript}
use Rattle.st_script.specs.declared.items.ScriptItem.{ScriptItem}
use Rattle.st_session.specs.Runs.{Runs}
use Rattle.st_session.specs.States.{IsState, SessionValue}
use Rattle.st_session.specs.declared.reply.Reply.{Reply}
use Rattle.st_shape.specs.Rules.{Drawing, IsPicture}
use Rattle.st_shape.specs.Verdict.{IsRight}
use Rattle.st_test.specs.Planar.{StValue}
use Rattle.st_words.specs.declared.words.Command.TheVariants.{Draw, Query, Lattice}
use Rattle.st_words.specs.declared.words.Operation.{Operation}
use Rattle.st_words.specs.declared.words.Task.TheVariants.{Check, Orient, Session}
use Rattle.st_words.specs.declared.words.DrawForm.{DrawForm}
use Rattle.st_report.specs.declared.stop.Status.{Status}
use Rattle.st_report.specs.declared.stop.Status.TheVariants as status
use Rattle.stdraw_core.specs.Checked.{clean_line}
use Rattle.stdraw_core.specs.Drawing.{ShowsFile}
use Rattle.stdraw_core.specs.Lattice.{AreBoundLines}
use Rattle.stdraw_core.specs.Paths.{HasValidPaths}
use Rattle.stdraw_core.specs.Oriented.{ArePolesNamed, IsOrientedFile, outer_at}
use Rattle.stdraw_core.specs.Query.{AreAnswers, AreKnown, IsNamed, names_of}
use Rattle.stdraw_core.specs.Session.{calls_of, first_value, reply_lines}
use Rattle.st_bipolar.specs.Orientation.{IsOrientation}
use Rattle.st_map.specs.Embedded.{Embedded}
use Rattle.st_test.specs.declared.digraph_fault.Poles.{Poles}
use Rattle.st_verdict.specs.Verdict.{IsAccepted, HasMap}
use Rattle.st_words.specs.Words.{IsCommand, IsTask}
use Rattle.st_ids.specs.declared.limits.TheConstants.{MOST_BYTES}
use Rattle.st_verdict.specs.File.{IsGraph, IsGraphWithin}

-- the bytes are the text of a tree that has a graph within the limits, and this is a planar st-graph
pub record IsPlanarFile (bytes : List ℕ) (g : InputGraph) (st : StValue) : Type 0 where
  pub few : length bytes ≤ MOST_BYTES
  pub tree : Entries
  pub text : IsText bytes tree
  pub graph : IsGraph tree (Ok g)
  pub planar : IsAccepted g (Ok st)

-- the text of a right picture of the file's graph was written, and its paths are valid where the form looks at them
pub record IsDrawnFile (form : DrawForm) (bytes : List ℕ) (old new : SinkState) : Type 0 where
  pub g : InputGraph
  pub st : StValue
  pub file : IsPlanarFile bytes g st
  pub valid : HasValidPaths form g st
  pub out : List ℕ
  pub shows : ShowsFile form g st out
  pub gains : Gains old new out

-- Each file of a planar st-graph is drawn, in the constrained form where its paths are valid. A drawing is written for no other
-- file, and it is a right one. Where there is no drawing, nothing is written.
pub record HeadlineFor (form : DrawForm) (bytes : List ℕ) (old new : SinkState) (s : Status) : Type 0 where
  pub drawn : (g : InputGraph) (st : StValue) → IsPlanarFile bytes g st → HasValidPaths form g st → s ≡ status.Done
  pub right : s ≡ status.Done → IsDrawnFile form bytes old new
  pub nothing : s ≢ status.Done → new ≡ old

-- It is so for the words of each form, where memory sufficed, and neither the source nor the output had a fault.
abbrev pub Headline : List (List ℕ) → SourceState → SourceState → SinkState → SinkState → Status → Type 0
Headline words src src' out out' s = (form : DrawForm) (bytes : List ℕ) → IsCommand words (Draw form) → src.left ≡ Some bytes
    → s ≢ status.NoMemory → ¬ Rose src.faults src'.faults → ¬ Rose out.faults out'.faults → HeadlineFor form bytes out out' s

-- the lines that answer a query of the vertices of the file's graph were written
pub record IsAnsweredFile (pairs : List (ℤ × ℤ)) (bytes : List ℕ) (old new : SinkState) : Type 0 where
  pub g : InputGraph
  pub st : StValue
  pub file : IsPlanarFile bytes g st
  pub out : List ℕ
  pub answers : AreAnswers g st pairs out
  pub gains : Gains old new out

-- Each query of vertices of a planar st-graph is answered. Lines are written for no other file and for no other names, and
-- they are right: each says yes exactly where a walk leads from the first vertex to the second, which is exactly where the
-- first point is at most the second. Where there is no answer, nothing is written.
pub record QueryHeadlineFor (pairs : List (ℤ × ℤ)) (bytes : List ℕ) (old new : SinkState) (s : Status) : Type 0 where
  pub answered : (g : InputGraph) (st : StValue) → IsPlanarFile bytes g st → AreKnown g (names_of pairs) → s ≡ status.Done
  pub right : s ≡ status.Done → IsAnsweredFile pairs bytes old new
  pub nothing : s ≢ status.Done → new ≡ old

-- It is so for the words of each query, where memory sufficed, and neither the source nor the output had a fault.
abbrev pub QueryHeadline : List (List ℕ) → SourceState → SourceState → SinkState → SinkState → Status → Type 0
QueryHeadline words src src' out out' s = (pairs : List (ℤ × ℤ)) (bytes : List ℕ) → IsCommand words (Query pairs) → src.left ≡ Some bytes
    → s ≢ status.NoMemory → ¬ Rose src.faults src'.faults → ¬ Rose out.faults out'.faults → QueryHeadlineFor pairs bytes out out' s

-- the lines about the bound of two vertices of the file's graph were written
pub record IsBoundFile (op : Operation) (from to : ℤ) (bytes : List ℕ) (old new : SinkState) : Type 0 where
  pub g : InputGraph
  pub st : StValue
  pub file : IsPlanarFile bytes g st
  pub out : List ℕ
  pub lines : AreBoundLines op from to g st out
  pub gains : Gains old new out

-- Each join and each meet of vertices of a planar st-graph is answered. Lines are written for no other file and for no other
-- names, and they name the bound, and the leftmost walks that show it. Where there is no answer, nothing is written.
pub record LatticeHeadlineFor (op : Operation) (from to : ℤ) (bytes : List ℕ) (old new : SinkState) (s : Status) : Type 0 where
  pub answered : (g : InputGraph) (st : StValue) → IsPlanarFile bytes g st → AreKnown g (from ∷ to ∷ []) → s ≡ status.Done
  pub right : s ≡ status.Done → IsBoundFile op from to bytes old new
  pub nothing : s ≢ status.Done → new ≡ old

-- It is so for the words of each bound, where memory sufficed, and neither the source nor the output had a fault.
abbrev pub LatticeHeadline : List (List ℕ) → SourceState → SourceState → SinkState → SinkState → Status → Type 0
LatticeHeadline words src src' out out' s = (op : Operation) (from to : ℤ) (bytes : List ℕ) → IsCommand words (Lattice op from to) → src.left ≡ Some bytes
    → s ≢ status.NoMemory → ¬ Rose src.faults src'.faults → ¬ Rose out.faults out'.faults → LatticeHeadlineFor op from to bytes out out' s

-- the graph has an orientation whose source and sink have these names; the outer face is that of the end that the file names,
-- else that of the first end at the source
pub record IsOrientable (from to : ℤ) (g : InputGraph) : Type 0 where
  pub p : Poles
  pub named : ArePolesNamed from to g (Ok p)
  pub m : Embedded
  pub map : HasMap g (Ok m)
  pub b : ℕ → Bool
  pub h : Embedded
  pub is : IsOrientation m p.source.0 p.sink.0 (outer_at g p m) b h

-- the text of a tree that has a graph within the limits of vertices and edges, and this is a planar st-graph
pub record IsPlanarText (out : List ℕ) (g : InputGraph) (st : StValue) : Type 0 where
  pub tree : Entries
  pub text : IsText out tree
  pub graph : IsGraph tree (Ok g)
  pub planar : IsAccepted g (Ok st)

-- The text is that of a planar st-graph whose source and sink have these names. Vertices, edges and labels are those of the
-- file, and each vertex has its edges in the order of the file. Within the limit of bytes it is a file that every command on a
-- planar st-graph reads.
pub record IsOrientedText (from to : ℤ) (g : InputGraph) (out : List ℕ) : Type 0 where
  pub made : InputGraph
  pub st : StValue
  pub is : IsPlanarText out made st
  pub file : length out ≤ MOST_BYTES → IsPlanarFile out made st
  pub source : IsNamed made st.source from
  pub sink : IsNamed made st.sink to
  pub vertices : made.vertex_names ≡ g.vertex_names
  pub edges : made.edge_names ≡ g.edge_names
  pub labels : made.labels ≡ g.labels
  pub orders : made.orders ≡ g.orders

-- the text of an orientation of the file's graph was written
pub record IsOrientationFile (from to : ℤ) (bytes : List ℕ) (old new : SinkState) : Type 0 where
  pub g : InputGraph
  pub graph : IsGraphWithin bytes (Ok g)
  pub p : Poles
  pub named : ArePolesNamed from to g (Ok p)
  pub m : Embedded
  pub map : HasMap g (Ok m)
  pub out : List ℕ
  pub oriented : IsOrientedFile g p m out
  pub read : IsOrientedText from to g out
  pub gains : Gains old new out

-- Each graph that has an orientation with the poles of these names is oriented, and no other is. The output is the file of an
-- orientation, and it is accepted as a planar st-graph. Where there is none, nothing is written.
pub record OrientHeadlineFor (from to : ℤ) (bytes : List ℕ) (old new : SinkState) (s : Status) : Type 0 where
  pub oriented : (g : InputGraph) → IsGraphWithin bytes (Ok g) → IsOrientable from to g → s ≡ status.Done
  pub right : s ≡ status.Done → IsOrientationFile from to bytes old new
  pub nothing : s ≢ status.Done → new ≡ old

-- It is so for the words of each orientation, where memory sufficed, and neither the source nor the output had a fault.
abbrev pub OrientHeadline : List (List ℕ) → SourceState → SourceState → SinkState → SinkState → Status → Type 0
OrientHeadline words src src' out out' s = (from to : ℤ) (bytes : List ℕ) → IsTask words (Orient from to) → src.left ≡ Some bytes
    → s ≢ status.NoMemory → ¬ Rose src.faults src'.faults → ¬ Rose out.faults out'.faults → OrientHeadlineFor from to bytes out out' s

-- the bytes are those of a planar st-graph, and these are the records of the file, as many as the limit at most
pub record IsScriptFile (bytes : List ℕ) (g : InputGraph) (st : StValue) (items : List ScriptItem) : Type 0 where
  pub planar : IsPlanarFile bytes g st
  pub script : IsScript planar.tree items
  pub few : length items ≤ MOST_RECORDS

-- All records of the file were carried out, from the first state on, which leaves a planar st-graph again; and one
-- line for each question was written. Its reply is that of the state that the edits before it have left, and so is
-- as from scratch.
pub record IsSessionFile (bytes : List ℕ) (old new : SinkState) : Type 0 where
  pub g : InputGraph
  pub st : StValue
  pub items : List ScriptItem
  pub file : IsScriptFile bytes g st items
  pub replies : List Reply
  pub last : SessionValue
  pub runs : Runs (first_value g st) (calls_of items) replies last
  pub state : IsState last.state
  pub gains : Gains old new (reply_lines (calls_of items) replies)

-- A session is answered where all records of the file can be carried out, and for no other file. Where one is
-- refused, nothing is written.
pub record SessionHeadlineFor (bytes : List ℕ) (old new : SinkState) (s : Status) : Type 0 where
  pub answered : (g : InputGraph) (st : StValue) (items : List ScriptItem) → IsScriptFile bytes g st items
      → (replies : List Reply) (last : SessionValue) → Runs (first_value g st) (calls_of items) replies last → s ≡ status.Done
  pub right : s ≡ status.Done → IsSessionFile bytes old new
  pub nothing : s ≢ status.Done → new ≡ old

-- It is so for the words of a session, where memory sufficed, and neither the source nor the output had a fault.
abbrev pub SessionHeadline : List (List ℕ) → SourceState → SourceState → SinkState → SinkState → Status → Type 0
SessionHeadline words src src' out out' s = (bytes : List ℕ) → IsTask words Session → src.left ≡ Some bytes
    → s ≢ status.NoMemory → ¬ Rose src.faults src'.faults → ¬ Rose out.faults out'.faults → SessionHeadlineFor bytes out out' s

-- the bytes, at most as many as the limit, are the text of a drawing in which nothing is wrong
pub record IsCleanFile (bytes : List ℕ) (d : Drawing) : Type 0 where
  pub few : length bytes ≤ MOST_DRAWING_BYTES
  pub text : bytes ≡ text d
  pub picture : IsPicture d
  pub right : IsRight d

-- the line of the clean drawing of the file was written
pub record IsAcceptedFile (bytes : List ℕ) (old new : SinkState) : Type 0 where
  pub d : Drawing
  pub file : IsCleanFile bytes d
  pub gains : Gains old new (clean_line d)

-- Each clean drawing is accepted, and no other file is. What is not accepted leaves the output as it was.
pub record CheckHeadlineFor (bytes : List ℕ) (old new : SinkState) (s : Status) : Type 0 where
  pub accepted : (d : Drawing) → IsCleanFile bytes d → s ≡ status.Done
  pub right : s ≡ status.Done → IsAcceptedFile bytes old new
  pub nothing : s ≢ status.Done → new ≡ old

-- It is so for the words of a check, where memory sufficed, and neither the source nor the output had a fault.
abbrev pub CheckHeadline : List (List ℕ) → SourceState → SourceState → SinkState → SinkState → Status → Type 0
CheckHeadline words src src' out out' s = (bytes : List ℕ) → IsTask words Check → src.left ≡ Some bytes
    → s ≢ status.NoMemory → ¬ Rose src.faults src'.faults → ¬ Rose out.faults out'.faults → CheckHeadlineFor bytes out out' s

-- The text of each right drawing of a file's graph is that of a clean drawing.
abbrev pub AcceptsDrawings : Type 0
AcceptsDrawings = (bytes : List ℕ) (g : InputGraph) (st : StValue) → IsPlanarFile bytes g st
    → (form : DrawForm) (out : List ℕ) → ShowsFile form g st out → (d : Drawing) × IsCleanFile out d
