use Rattle.std.proofs.Common.{subst}
use Rattle.st_ids.specs.EdgeNumbers.{numbers}
use Rattle.st_ids.specs.Lists.{In}
use Rattle.st_sides.specs.Sides.{edge_count}
use Rattle.draw_align.proofs.StepLemmas.{path_is, all_below}
use Rattle.draw_align.proofs.steps.path_in.Goals as goal

pub returns-clause-value : goal.returns-clause-value
returns-clause-value c = path_is c.args.paths.now c.args.p (numbers c.path.result.now) c.path.ensures

pub returns-clause-within : goal.returns-clause-within
returns-clause-within c = all_below (edge_count c.args.sides.now) c.path.result.now (λ x i.
    c.requires.edges c.args.p x c.requires.there (subst (λ z. In x z) (path_is c.args.paths.now c.args.p (numbers c.path.result.now) c.path.ensures) i))
