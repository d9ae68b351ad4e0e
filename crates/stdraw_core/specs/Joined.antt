-- What the commands say of one generated graph: `gen` writes its file, `test` and `draw` are given that file, and `bench` reads
-- nothing.
-- Letters: r which graph, g the graph with names and orders, st planar st-graph, form form of drawing.
--   IsWanted r                       as many vertices as `gen` and `bench` take
--   IsGraphOf r g st                 the generated graph, and the planar st-graph that it is: its source is the vertex 1, its
--                                    sink the vertex 2
--   IsTestedFile r file              `test` answers to the file with the numbers of the generated graph
--   IsBenchedFile r form file line   the line tells how long the text is that `draw` answers to the file
--   GeneratedIsTested                so it is for the file of every recipe
--   GeneratedIsDrawn                 so it is for every recipe and every form
use Rattle.std.specs.Prelude.{◌≡◌, ℕ, ◌≤◌, pos, List, length, Ok}
use Rattle.eps_core.specs.Text.{text}
use Rattle.st_input.specs.InputGraph.{InputGraph}
use Rattle.st_map.specs.Embedded.{edges, faces}
use Rattle.st_shape.specs.Rules.{Drawing}
use Rattle.st_test.specs.Planar.{StValue}
use Rattle.st_verdict.specs.Verdict.{IsAccepted, file_vertex_name}
use Rattle.st_words.specs.Words.{most_vertices}
use Rattle.st_words.specs.declared.words.Command.TheVariants.{Draw, Test}
use Rattle.st_words.specs.declared.words.DrawForm.{DrawForm}
use Rattle.st_words.specs.declared.words.Recipe.{Recipe}
use Rattle.st_words.specs.declared.words.Task.TheVariants.{Bench, File, Gen}
use Rattle.stdraw_core.specs.Answer.{AnswersTask}
use Rattle.stdraw_core.specs.Bench.{bench_line}
use Rattle.stdraw_core.specs.Generated.{IsGenerated}
use Rattle.stdraw_core.specs.Tested.{test_line}

-- as many vertices as `gen` and `bench` take
abbrev pub IsWanted : Recipe → Type 0
IsWanted r = (2 ≤ r.vertices) × (r.vertices ≤ most_vertices)

-- the generated graph, and the planar st-graph that it is, from the vertex 1 to the vertex 2
pub record IsGraphOf (r : Recipe) (g : InputGraph) (st : StValue) : Type 0 where
  pub generated : IsGenerated r g
  pub planar : IsAccepted g (Ok st)
  pub source : file_vertex_name g st.source ≡ pos 1
  pub sink : file_vertex_name g st.sink ≡ pos 2

-- `test` answers to the file with the numbers of the generated graph
pub record IsTestedFile (r : Recipe) (file : List ℕ) : Type 0 where
  pub g : InputGraph
  pub st : StValue
  pub is : IsGraphOf r g st
  pub answer : AnswersTask (File Test) file (Ok (test_line g st))

-- The line of `bench` tells of the picture whose text `draw` answers to the file: how large its graph and its frame are, and
-- how long the text is.
pub record IsBenchedFile (r : Recipe) (form : DrawForm) (file line : List ℕ) : Type 0 where
  pub g : InputGraph
  pub st : StValue
  pub is : IsGraphOf r g st
  pub picture : Drawing
  pub answer : AnswersTask (File (Draw form)) file (Ok (text picture))
  pub told : line ≡ bench_line form st.map.graph.vertices (edges st.map.graph) (faces st.map.graph) picture.frame (length (text picture))

-- the file that `gen` writes is tested as the generated graph
abbrev pub GeneratedIsTested : Type 0
GeneratedIsTested = (r : Recipe) (bytes file : List ℕ) → IsWanted r → AnswersTask (Gen r) bytes (Ok file) → IsTestedFile r file

-- the file that `gen` writes is drawn as `bench` tells
abbrev pub GeneratedIsDrawn : Type 0
GeneratedIsDrawn = (r : Recipe) (form : DrawForm) (bytes file line : List ℕ) → IsWanted r → AnswersTask (Gen r) bytes (Ok file) → AnswersTask (Bench r form) bytes (Ok line)
    → IsBenchedFile r form file line
