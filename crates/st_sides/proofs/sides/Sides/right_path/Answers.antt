use Rattle.std.proofs.Common.{[], get_or, sym, ap, ◌∙◌}
use Rattle.std.proofs.lemmas.Option.{get_or_from_slice_get}
use Rattle.st_ids.specs.EdgeNumbers.{numbers}
use Rattle.st_sides.specs.Sides.{right_path}
use Rattle.st_sides.proofs.ReaderLemmas.{right_path_within}
use Rattle.st_sides.proofs.sides.Sides.right_path.Goals as goal

pub returns-clause-within : goal.returns-clause-within
unfolding right_path
returns-clause-within c =
    right_path_within c.args.self.now c.local.ensures (ap (right_path c.args.self.now) c.facts.ensures.own.sides.nodes ∙ c.facts.ensures.own.sides.are.right_none) c.args.f.0 c.requires c.path.result.now
    (sym (ap (λ z. get_or z.right_paths c.args.f.0 []) (sym c.self.view_is) ∙ get_or_from_slice_get c.self.inside.right_paths c.args.f.0 (numbers c.path.result.now) [] c.path.ensures))
