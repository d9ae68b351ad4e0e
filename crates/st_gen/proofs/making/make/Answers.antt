use Rattle.std.proofs.Common.{◌≡◌, ◌≤◌, ◌+◌, ◌*◌, length, ap, ◌∙◌, sym, subst}
use Rattle.st_gen.specs.Made.{IsMade}
use Rattle.st_input.specs.Plain.{plain_graph}
use Rattle.st_gen.proofs.PlainLemmas.{of_plain, plain_same}
use Rattle.st_gen.proofs.making.make.Goals as goal

pub returns-clause-vertices : goal.returns-clause-vertices
returns-clause-vertices c = of_plain c.plain.result c.in_ok-graph.graph (λ s. s.graph.vertices ≡ c.args.n) c.plain.ensures.value
    (λ s q. ap (λ z. z.graph.vertices) q ∙ c.in_ok-graph.ensures.vertices)

pub returns-clause-edges : goal.returns-clause-edges
returns-clause-edges c = of_plain c.plain.result c.in_ok-graph.graph (λ s. IsMade c.args.n c.args.seed s.graph.ends) c.plain.ensures.value
    (λ s q. subst (λ z. IsMade c.args.n c.args.seed z.graph.ends) (sym q) c.in_ok-graph.ensures.edges)

pub returns-clause-few : goal.returns-clause-few
returns-clause-few c = of_plain c.plain.result c.in_ok-graph.graph (λ s. length s.graph.ends + 3 ≤ 2 * c.args.n) c.plain.ensures.value
    (λ s q. subst (λ z. length z.graph.ends + 3 ≤ 2 * c.args.n) (sym q) c.in_ok-graph.ensures.few)

pub returns-clause-plain : goal.returns-clause-plain
returns-clause-plain c = of_plain c.plain.result c.in_ok-graph.graph (λ s. s ≡ plain_graph s.graph) c.plain.ensures.value
    (λ s q. plain_same c.in_ok-graph.graph s q)
