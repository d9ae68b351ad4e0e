-- What is written is read again.
--   ReadsBack          the file of a plain graph is read again as that graph, whatever the places of its pairs
--   WrittenReadsBack   so is the file of any graph without written paths, with all that the graph has
use Rattle.std.specs.Prelude.{◌≡◌, ◌≤◌, ℕ, [], length, None, Some}
use Rattle.st_ids.specs.Graph.{Graph, HasEnds}
use Rattle.gml_core.specs.Trees.{Entries}
use Rattle.gml_core.specs.Printing.{at_zero}
use Rattle.st_input.specs.InputGraph.{InputGraph, IsConsistent}
use Rattle.st_input.specs.Embedding.{embedded_graph}
use Rattle.st_input.specs.FirstFault.{shape_fault}
use Rattle.st_input.specs.Plain.{plain_graph}
use Rattle.st_writer.specs.Plain.{plain_entries}
use Rattle.st_writer.specs.Written.{written_entries}

-- a text with the pairs of a plain graph within the limits, at any places, has no fault, and its graph is that one
abbrev pub ReadsBack : Type 0
ReadsBack = (g : Graph) (text : Entries) (max_n max_m : ℕ) → HasEnds g → g.vertices ≤ max_n → length g.ends ≤ max_m → at_zero text ≡ at_zero (plain_entries (plain_graph g)) → (shape_fault text max_n max_m ≡ None) × (embedded_graph text ≡ Some (plain_graph g))

-- a text with the written pairs of a graph without written paths, within the limits and at any places, has no fault, and
-- its graph is that one
abbrev pub WrittenReadsBack : Type 0
WrittenReadsBack = (g : InputGraph) (text : Entries) (max_n max_m : ℕ) → IsConsistent g → HasEnds g.graph → g.paths ≡ [] → g.graph.vertices ≤ max_n → length g.graph.ends ≤ max_m → at_zero text ≡ at_zero (written_entries g) → (shape_fault text max_n max_m ≡ None) × (embedded_graph text ≡ Some g)
