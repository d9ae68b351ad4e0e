-- What is answered of the drawing of a generated graph.
-- Letters: r which graph, g the graph with names and orders, st planar st-graph.
--   form_label form               the words of the form, one space between
--   bench_line ..                 the numbers of a drawing, and the length of its text
--   IsLineOn form g st out        that line, of the drawing of g in the form
--   IsBenched r form out          that line, of the drawing of the generated graph
--   AnswersBench r form answer    the answer is that line
use Rattle.std.specs.Prelude.{◌≡◌, ℕ, pos, List, [], ◌++◌, codes, length, Result, Ok, Err}
use Rattle.eps_core.specs.Text.{text}
use Rattle.st_input.specs.InputGraph.{InputGraph}
use Rattle.st_map.specs.Embedded.{edges, faces}
use Rattle.st_report.specs.declared.stop.Refusal.{Refusal}
use Rattle.st_report.specs.Lines.{numbered}
use Rattle.st_shape.specs.declared.point.Point.{Point}
use Rattle.st_shape.specs.Rules.{Drawing}
use Rattle.st_test.specs.Planar.{StValue}
use Rattle.st_words.specs.declared.words.DrawForm.{DrawForm}
use Rattle.st_words.specs.declared.words.DrawForm.TheVariants.{Visibility, Tessellation, Constrained, Polyline, Dominance}
use Rattle.st_words.specs.declared.words.Recipe.{Recipe}
use Rattle.st_words.specs.Words.{spot_word}
use Rattle.st_verdict.specs.Verdict.{IsAccepted}
use Rattle.stdraw_core.specs.Drawing.{Depicts}
use Rattle.stdraw_core.specs.Generated.{IsGenerated}

-- the words of the form, one space between
abbrev pub form_label : DrawForm → List ℕ
form_label Visibility = codes "visibility"
form_label Tessellation = codes "tessellation"
form_label Constrained = codes "constrained"
form_label (Polyline spot) = codes "polyline " ++ spot_word spot
form_label Dominance = codes "dominance"

-- how many vertices, edges and faces
abbrev pub sizes_line : ℕ → ℕ → ℕ → List ℕ
sizes_line v e f = numbered [] (pos v) (codes " vertices, ") ++ (numbered [] (pos e) (codes " edges, ") ++ numbered [] (pos f) (codes " faces, "))

-- the corner of the frame, in units of the grid, and how many bytes the text has
abbrev pub extent_line : Point → ℕ → List ℕ
extent_line frame bytes = codes "frame " ++ (numbered [] frame.x (codes " ") ++ (numbered [] frame.y (codes ", ") ++ numbered [] (pos bytes) (codes " bytes\n")))

-- the form, and both of these
abbrev pub bench_line : DrawForm → ℕ → ℕ → ℕ → Point → ℕ → List ℕ
bench_line form v e f frame bytes = codes "bench " ++ (form_label form ++ (codes ": " ++ (sizes_line v e f ++ extent_line frame bytes)))

-- the line on a drawing of a planar st-graph, with the length of its text
pub record IsLineOn (form : DrawForm) (g : InputGraph) (st : StValue) (out : List ℕ) : Type 0 where
  pub picture : Drawing
  pub depicts : Depicts form g st picture
  pub told : out ≡ bench_line form st.map.graph.vertices (edges st.map.graph) (faces st.map.graph) picture.frame (length (text picture))

-- the line on the drawing of the generated graph, which is accepted as a planar st-graph
pub record IsBenched (r : Recipe) (form : DrawForm) (out : List ℕ) : Type 0 where
  pub g : InputGraph
  pub is : IsGenerated r g
  pub st : StValue
  pub planar : IsAccepted g (Ok st)
  pub line : IsLineOn form g st out

-- what `bench` answers: that line, whatever bytes there are
abbrev pub AnswersBench : Recipe → DrawForm → Result (List ℕ) Refusal → Type 0
AnswersBench r form (Ok out) = IsBenched r form out
AnswersBench r form (Err _) = ⊥
