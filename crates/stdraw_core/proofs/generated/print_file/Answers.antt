use Rattle.std.proofs.Common.{ap, ◌∙◌}
use Rattle.gml_core.specs.Printing.{printed}
use Rattle.stdraw_core.proofs.DrawingLemmas.{if_ok}
use Rattle.stdraw_core.proofs.generated.print_file.Goals as goal

pub returns : goal.returns
returns c = if_ok c.print.result c.print.ensures (λ out e. record {
  g = c.in_ok-spec.spec;
  is = record { vertices = c.in_ok-spec.ensures.vertices; edges = c.in_ok-spec.ensures.edges; plain = c.in_ok-spec.ensures.plain; tables = c.in_ok-spec.ensures.consistent };
  told = e ∙ ap printed c.in_ok-tree.ensures.entries;
})
