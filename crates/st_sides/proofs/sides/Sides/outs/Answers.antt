use Rattle.std.proofs.Common.{[], get_or, sym, ap, ◌∙◌}
use Rattle.std.proofs.lemmas.Option.{get_or_from_slice_get}
use Rattle.st_ids.specs.EdgeNumbers.{numbers}
use Rattle.st_sides.specs.Sides.{outs}
use Rattle.st_sides.proofs.ReaderLemmas.{outs_within}
use Rattle.st_sides.proofs.sides.Sides.outs.Goals as goal

pub returns-clause-within : goal.returns-clause-within
unfolding outs
returns-clause-within c =
    outs_within c.args.self.now c.local.ensures c.args.v.0 c.requires c.path.result.now
    (sym (ap (λ z. get_or z.out_lists c.args.v.0 []) (sym c.self.view_is) ∙ get_or_from_slice_get c.self.inside.outs c.args.v.0 (numbers c.path.result.now) [] c.path.ensures))
