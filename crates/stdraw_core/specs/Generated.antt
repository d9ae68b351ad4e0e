-- What is answered of a generated graph, for which no file is read.
-- Letters: r which graph, g the graph with names and orders.
--   IsGenerated r g      g is the graph that is generated
--   IsFileOf r out       its file: the printed form of its tree
--   AnswersGen r answer  the answer is that file
use Rattle.std.specs.Prelude.{◌≡◌, ℕ, List, Result, Ok, Err}
use Rattle.gml_core.specs.Printing.{printed}
use Rattle.st_gen.specs.Made.{IsMade}
use Rattle.st_input.specs.InputGraph.{InputGraph, IsConsistent}
use Rattle.st_input.specs.Plain.{plain_graph}
use Rattle.st_writer.specs.Plain.{plain_entries}
use Rattle.st_report.specs.declared.stop.Refusal.{Refusal}
use Rattle.st_words.specs.declared.words.Recipe.{Recipe}

-- the vertices and the generated edges, with the names and orders of a plain graph, whose tables fit together
pub record IsGenerated (r : Recipe) (g : InputGraph) : Type 0 where
  pub vertices : g.graph.vertices ≡ r.vertices
  pub edges : IsMade r.vertices r.seed g.graph.ends
  pub plain : g ≡ plain_graph g.graph
  pub tables : IsConsistent g

-- the file of the generated graph
pub record IsFileOf (r : Recipe) (out : List ℕ) : Type 0 where
  pub g : InputGraph
  pub is : IsGenerated r g
  pub told : out ≡ printed (plain_entries g)

-- what `gen` answers: that file, whatever bytes there are
abbrev pub AnswersGen : Recipe → Result (List ℕ) Refusal → Type 0
AnswersGen r (Ok out) = IsFileOf r out
AnswersGen r (Err _) = ⊥
