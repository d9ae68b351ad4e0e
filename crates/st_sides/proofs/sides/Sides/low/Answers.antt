use Rattle.std.proofs.Common.{◌<◌, get_or, sym, ap, ◌∙◌, subst}
use Rattle.std.proofs.lemmas.Option.{get_or_from_slice_get}
use Rattle.st_sides.specs.Sides.{low}
use Rattle.st_sides.proofs.ReaderLemmas.{low_within}
use Rattle.st_sides.proofs.sides.Sides.low.Goals as goal

pub returns-clause-within : goal.returns-clause-within
unfolding low
returns-clause-within c =
    subst (λ z. z < c.args.self.now.vertices) (ap (λ z. get_or z.lows c.args.f.0 0) (sym c.self.view_is) ∙ get_or_from_slice_get c.self.inside.lows c.args.f.0 c.get.result.now 0 c.get.ensures.value)
    (low_within c.args.self.now c.local.ensures c.args.f.0 c.requires)
