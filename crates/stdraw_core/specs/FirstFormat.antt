-- The first format: edges without lengths, and smaller limits. A file that keeps it has the answer that it had.
-- Letters: tree of the file, g graph, st planar st-graph, x its sides, N names, d picture.
--   first_bytes, first_vertices, first_edges   the limits of the first format
--   IsFirstFew, IsFirstGraph, IsFirstGraphWithin   what it found in bytes, and when it refused
--   one_each                       each edge took one row
--   AreFirstRows g w               in a polyline picture two rows where another edge has the same ends, else one
--   IsFirstPicture form            the picture of the form
--   AnswersFirst command           what a command answered about a planar st-graph
--   AnswersFirstFile command       and to the bytes of a file
--   KeepsFirst bytes answer        no edge has the key `minlen`, and the answer isn't that a limit is passed
--   FirstFormatLaw                 a file that keeps the first format has the answer that it had
use Rattle.std.specs.Prelude.{◌≡◌, ◌≢◌, ℕ, ◌-◌, ◌<◌, ◌≤◌, List, length, None, Some, Result, Ok, Err}
use Rattle.gml_core.specs.Reading.{IsText}
use Rattle.gml_core.specs.Trees.{Entries}
use Rattle.st_ids.specs.declared.names.Names.{Names}
use Rattle.st_map.specs.Embedded.{Embedded, edges}
use Rattle.st_number.specs.Parallel.{HasParallel}
use Rattle.st_shape.specs.Rules.{Drawing, IsPicture}
use Rattle.st_sides.specs.Sides.{SidesValue, left_of, right_of}
use Rattle.st_test.specs.Planar.{StValue}
use Rattle.draw_align.specs.Constrained.{IsConstrained}
use Rattle.draw_align.specs.Listed.{AreSound}
use Rattle.draw_poly.specs.Polyline.{IsPolylines}
use Rattle.draw_vis.specs.Tessellation.{IsTessellation}
use Rattle.draw_vis.specs.Visibility.{IsVisibility}
use Rattle.eps_core.specs.Text.{text}
use Rattle.st_input.specs.Embedding.{embedded_graph}
use Rattle.st_input.specs.FirstFault.{shape_fault}
use Rattle.st_input.specs.InputGraph.{InputGraph}
use Rattle.st_input.specs.Laws.{HasNoLengths}
use Rattle.st_input.specs.declared.fault.ShapeFault.TheVariants.{TooManyVertices, TooManyEdges}
use Rattle.st_report.specs.declared.stop.Refusal.{Refusal}
use Rattle.st_report.specs.declared.stop.Refusal.TheVariants.{TooManyBytes, Shape}
use Rattle.st_verdict.specs.File.{IsTree}
use Rattle.st_verdict.specs.Stages.{Then, IsToldBy}
use Rattle.st_verdict.specs.Verdict.{IsAccepted}
use Rattle.st_words.specs.declared.words.Command.{Command}
use Rattle.st_words.specs.declared.words.Command.TheVariants.{Query, Test, Draw, Lattice}
use Rattle.st_words.specs.declared.words.DrawForm.{DrawForm}
use Rattle.st_words.specs.declared.words.DrawForm.TheVariants.{Visibility, Tessellation, Constrained, Polyline, Dominance}
use Rattle.st_words.specs.declared.words.Spot.{Spot}
use Rattle.stdraw_core.specs.Answer.{AnswersCommand, AnswersFile}
use Rattle.stdraw_core.specs.Drawing.{IsReducedPicture, file_names, spot_place}
use Rattle.stdraw_core.specs.Paths.{AreSidesIn, HasKnownEdges, RefusesDraw, paths_in}

abbrev pub first_bytes : ℕ
first_bytes = 16777216

abbrev pub first_vertices : ℕ
first_vertices = 20000

abbrev pub first_edges : ℕ
first_edges = 60000

-- more bytes than the limit were refused
abbrev pub IsFirstFew : List ℕ → Result (Unit {0}) Refusal → Type 0
IsFirstFew bytes (Ok _) = length bytes ≤ first_bytes
IsFirstFew bytes (Err r) = (r ≡ TooManyBytes) × (first_bytes < length bytes)

-- the graph of the tree; a tree with a fault was refused with the first
abbrev pub IsFirstGraph : Entries → Result InputGraph Refusal → Type 0
IsFirstGraph tree (Ok g) = (shape_fault tree first_vertices first_edges ≡ None) × (embedded_graph tree ≡ Some g)
IsFirstGraph tree (Err r) = IsToldBy (λ f. Shape f) (λ f. shape_fault tree first_vertices first_edges ≡ Some f) r

abbrev pub IsFirstGraphWithin : List ℕ → Result InputGraph Refusal → Type 0
IsFirstGraphWithin bytes = Then (IsFirstFew bytes) (λ _. Then (IsTree bytes) IsFirstGraph)

-- each edge took one row
abbrev pub one_each : ℕ → ℕ
one_each e = 1

-- in a polyline picture an edge took two rows where another edge has the same ends, and else one
pub record AreFirstRows (g : Embedded) (w : ℕ → ℕ) : Type 0 where
  pub double : (e : ℕ) → e < edges g → HasParallel g e → w e ≡ 2
  pub single : (e : ℕ) → e < edges g → ¬ HasParallel g e → w e ≡ 1

-- the polyline picture in which each vertex stands at this spot of its bar
pub record IsFirstPolyline (spot : Spot) (g : Embedded) (x : SidesValue) (N : Names) (d : Drawing) : Type 0 where
  pub weight : ℕ → ℕ
  pub rows : AreFirstRows g weight
  pub column : ℕ → ℕ
  pub picture : IsPolylines x weight column N d
  pub placed : (v : ℕ) → v < x.vertices → column v ≡ spot_place spot (picture.c (left_of x v)) (picture.c (right_of x v) - 1)

-- the constrained picture of valid paths
pub record IsFirstAligned (g : InputGraph) (x : SidesValue) (N : Names) (d : Drawing) : Type 0 where
  pub known : HasKnownEdges g
  pub sound : AreSound x (paths_in g) (length (paths_in g))
  pub is : IsConstrained x one_each (paths_in g) N d

-- the picture of the form
abbrev pub IsFirstPicture : DrawForm → InputGraph → StValue → SidesValue → Names → Drawing → Type 0
IsFirstPicture Visibility g st x N d = IsVisibility x one_each N d
IsFirstPicture Tessellation g st x N d = IsTessellation x one_each N d
IsFirstPicture Constrained g st x N d = IsFirstAligned g x N d
IsFirstPicture (Polyline spot) g st x N d = IsFirstPolyline spot st.map.graph x N d
IsFirstPicture Dominance g st x N d = IsReducedPicture st x N d

-- the output was the EPS text of that picture
pub record DrawsFirst (form : DrawForm) (g : InputGraph) (st : StValue) (out : List ℕ) : Type 0 where
  pub sides : SidesValue
  pub are : AreSidesIn st sides
  pub picture : Drawing
  pub is : IsFirstPicture form g st sides (file_names g) picture
  pub rules : IsPicture picture
  pub told : out ≡ text picture

-- what the command answered about a planar st-graph
abbrev pub AnswersFirst : Command → InputGraph → StValue → Result (List ℕ) Refusal → Type 0
AnswersFirst (Draw form) g st (Ok out) = DrawsFirst form g st out
AnswersFirst (Draw form) g st (Err refusal) = RefusesDraw form g st refusal
AnswersFirst Test g st answer = AnswersCommand Test g st answer
AnswersFirst (Query pairs) g st answer = AnswersCommand (Query pairs) g st answer
AnswersFirst (Lattice op from to) g st answer = AnswersCommand (Lattice op from to) g st answer

-- what the command answered to the bytes of a file
abbrev pub AnswersFirstFile : Command → List ℕ → Result (List ℕ) Refusal → Type 0
AnswersFirstFile command bytes = Then (IsFirstGraphWithin bytes) (λ g. Then (IsAccepted g) (AnswersFirst command g))

-- no edge of the file has the key `minlen`, and the answer isn't that a limit is passed
pub record KeepsFirst (bytes : List ℕ) (answer : Result (List ℕ) Refusal) : Type 0 where
  pub plain : (tree : Entries) → IsText bytes tree → HasNoLengths tree
  pub few_bytes : answer ≢ Err TooManyBytes
  pub few_vertices : (n : ℕ) → answer ≢ Err (Shape (TooManyVertices n))
  pub few_edges : (m : ℕ) → answer ≢ Err (Shape (TooManyEdges m))

-- a file that keeps the first format has the answer that it had
abbrev pub FirstFormatLaw : Type 0
FirstFormatLaw = (command : Command) (bytes : List ℕ) (answer : Result (List ℕ) Refusal) → KeepsFirst bytes answer → AnswersFirstFile command bytes answer → AnswersFile command bytes answer
