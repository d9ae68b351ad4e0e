use Rattle.std.proofs.Common.{sym, ◌∙◌}
use Rattle.st_picture.proofs.tests.drawn.Goals as goal

pub bars_and_lines-requires-clause-names : goal.bars_and_lines-requires-clause-names
bars_and_lines-requires-clause-names c = c.in_ok-names.ensures c.in_ok-sides.sides (sym c.vertices.ensures.value ∙ c.if-vertices-ne3.false) (sym c.edges.ensures.value ∙ c.if-edges-ne3.false)
