use Rattle.std.proofs.Common.{sym, subst, arith}
use Rattle.st_input.specs.GraphSpec.{graph_view}
use Rattle.st_input.specs.Writable.{IsWritable}
use Rattle.st_input.proofs.graph.GraphSpec.with_ends.Goals as goal

pub returns-clause-writable : goal.returns-clause-writable
returns-clause-writable c = λ W.
    let V : IsWritable (graph_view c.self.inside) = subst IsWritable (sym c.self.view_is) W in
    subst IsWritable (sym c.assemble.ensures) (record { few = omega (arith, c.requires.vertices, c.requires.edges, W.few); short = V.short; quotes = V.quotes })
