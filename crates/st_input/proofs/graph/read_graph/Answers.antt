use Rattle.std.proofs.Common.{◌≡◌, length, subst, sym}
use Rattle.gml_core.specs.Views.{entry_view}
use Rattle.st_input.specs.InputGraph.{AreShownLabels}
use Rattle.st_parts.specs.declared.parts.Parts.{Parts}
use Rattle.st_input.proofs.FitLemmas.{labels_fit}
use Rattle.st_input.proofs.graph.read_graph.Goals as goal

pub spec_of-requires-clause-labels : goal.spec_of-requires-clause-labels
spec_of-requires-clause-labels c = subst (λ (p : Parts). length p.labels ≡ length p.nodes) (sym c.in_ok-parts-in-Some.ensures.parts) (labels_fit (entry_view c.in-Some.graph.now)).0

pub spec_of-requires-clause-shown : goal.spec_of-requires-clause-shown
spec_of-requires-clause-shown c = subst (λ (p : Parts). AreShownLabels p.labels) (sym c.in_ok-parts-in-Some.ensures.parts) (labels_fit (entry_view c.in-Some.graph.now)).1
