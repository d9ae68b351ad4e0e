-- One recipe gives one graph, and one file.
use Rattle.std.proofs.Common.{◌≡◌, ℕ, List, sym, ap, ◌∙◌}
use Rattle.gml_core.specs.Printing.{printed}
use Rattle.st_gen.proofs.Public.{one_graph}
use Rattle.st_ids.specs.Graph.{Graph}
use Rattle.st_input.specs.InputGraph.{InputGraph}
use Rattle.st_words.specs.declared.words.Recipe.{Recipe}
use Rattle.st_input.specs.Plain.{plain_graph}
use Rattle.st_writer.specs.Plain.{plain_entries}
use Rattle.stdraw_core.specs.Generated.{IsGenerated, IsFileOf}

same_graph : (g g' : Graph) → g.vertices ≡ g'.vertices → g.ends ≡ g'.ends → g ≡ g'
same_graph g g' p q =
    ap (λ (z : ℕ). let x : Graph = record { vertices = z; ends = g.ends } in x) p ∙ ap (λ (z : List (ℕ × ℕ)). let x : Graph = record { vertices = g'.vertices; ends = z } in x) q

pub same_generated : (r : Recipe) (g g' : InputGraph) → IsGenerated r g → IsGenerated r g' → g ≡ g'
same_generated r g g' h k =
    h.plain ∙ ap plain_graph (same_graph g.graph g'.graph (h.vertices ∙ sym k.vertices) (one_graph.one r.vertices r.seed g.graph.ends g'.graph.ends h.edges k.edges)) ∙ sym k.plain

pub file_same : (r : Recipe) (a b : List ℕ) → IsFileOf r a → IsFileOf r b → a ≡ b
file_same r a b h k = h.told ∙ ap (λ (z : InputGraph). printed (plain_entries z)) (same_generated r h.g k.g h.is k.is) ∙ sym k.told
