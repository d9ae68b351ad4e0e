use Rattle.std.proofs.Common.{◌≡◌, length, ap, ◌∙◌}
use Rattle.st_input.specs.EdgeNames.{known_names}
use Rattle.st_input.specs.GraphSpec.{graph_view}
use Rattle.st_input.proofs.PathLemmas.{paths_there}
use Rattle.st_input.proofs.graph.GraphSpec.paths.Goals as goal

pub returns-clause-there : goal.returns-clause-there
returns-clause-there c =
    let v : graph_view c.self.inside ≡ c.args.self.now = c.self.view_is in
    paths_there (known_names c.self.inside.edge_names) c.as_slice.result.now c.args.self.now.graph c.paths_of.result
    (ap (λ z. length z) c.self.invariant.edge_index ∙ c.self.invariant.consistent.edge_names ∙ ap (λ z. length z.graph.ends) v)
    c.paths_of.ensures.paths c.paths_of.ensures.known
