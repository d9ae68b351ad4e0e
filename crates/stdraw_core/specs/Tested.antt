-- What a test answers about a planar st-graph.
--   test_line g st           how many vertices, edges and faces, and the names of the poles
--   AnswersTest g st answer  the answer is that line
use Rattle.std.specs.Prelude.{◌≡◌, ℕ, pos, List, [], ◌++◌, codes, Result, Ok, Err}
use Rattle.st_input.specs.InputGraph.{InputGraph}
use Rattle.st_map.specs.Embedded.{edges, faces}
use Rattle.st_report.specs.declared.stop.Refusal.{Refusal}
use Rattle.st_report.specs.Lines.{numbered}
use Rattle.st_test.specs.Planar.{StValue}
use Rattle.st_verdict.specs.Verdict.{file_vertex_name}

-- the line of a planar st-graph: how many vertices, edges and faces, and the names of its poles
abbrev pub test_line : InputGraph → StValue → List ℕ
test_line g st = (numbered (codes "planar st-graph: ") (pos st.map.graph.vertices) (codes " vertices, ")
    ++ (numbered [] (pos (edges st.map.graph)) (codes " edges, ") ++ numbered [] (pos (faces st.map.graph)) (codes " faces, source ")))
    ++ (numbered [] (file_vertex_name g st.source) (codes ", sink ") ++ numbered [] (file_vertex_name g st.sink) (codes "\n"))

-- what a test answers: the line of the planar st-graph
abbrev pub AnswersTest : InputGraph → StValue → Result (List ℕ) Refusal → Type 0
AnswersTest g st (Ok out) = out ≡ test_line g st
AnswersTest g st (Err _) = ⊥
