use Rattle.std.proofs.Common.{◌≤◌, get_or, sym, ap, ◌∙◌, subst}
use Rattle.std.proofs.lemmas.Option.{get_or_from_slice_get}
use Rattle.st_sides.specs.Sides.{left_of}
use Rattle.st_sides.proofs.ReaderLemmas.{left_within}
use Rattle.st_sides.proofs.sides.Sides.left.Goals as goal

pub returns-clause-within : goal.returns-clause-within
unfolding left_of
returns-clause-within c =
    subst (λ z. z ≤ c.args.self.now.t_star) (ap (λ z. get_or z.lefts_of_vertices c.args.v.0 0) (sym c.self.view_is) ∙ get_or_from_slice_get c.self.inside.vertex_lefts c.args.v.0 c.get.result.now 0 c.get.ensures.value)
    (left_within c.args.self.now c.local.ensures c.args.v.0 c.requires)
