use Rattle.std.proofs.Common.{[], get_or, sym, ap, ◌∙◌}
use Rattle.std.proofs.lemmas.Option.{get_or_from_slice_get}
use Rattle.st_ids.specs.EdgeNumbers.{numbers}
use Rattle.st_sides.specs.Sides.{left_path}
use Rattle.st_sides.proofs.ReaderLemmas.{left_path_within}
use Rattle.st_sides.proofs.sides.Sides.left_path.Goals as goal

pub returns-clause-within : goal.returns-clause-within
unfolding left_path
returns-clause-within c =
    left_path_within c.args.self.now c.local.ensures c.facts.ensures.own.sides.are.left_none c.args.f.0 c.requires c.path.result.now
    (sym (ap (λ z. get_or z.left_paths c.args.f.0 []) (sym c.self.view_is) ∙ get_or_from_slice_get c.self.inside.left_paths c.args.f.0 (numbers c.path.result.now) [] c.path.ensures))
