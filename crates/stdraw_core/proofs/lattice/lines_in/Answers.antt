use Rattle.std.proofs.Common.{◌∙◌, ap, length}
use Rattle.stdraw_core.proofs.DrawingLemmas.{edges_are, if_ok}
use Rattle.stdraw_core.proofs.lattice.lines_in.Goals as goal

pub lines_of-requires-clause-edges : goal.lines_of-requires-clause-edges
lines_of-requires-clause-edges c = edges_are c.args.graph.now c.in_ok-sides.sides c.in_ok-sides.ensures ∙ ap length c.requires.found.ends

pub returns : goal.returns
returns c =
    if_ok c.lines_of.result c.lines_of.ensures
    (λ out h. (c.in_ok-sides.sides, record { sides = c.in_ok-sides.ensures; sizes = c.facts.ensures.sizes }, h))
