use Rattle.std.proofs.Common.{slice_get, Some, sym, ap, ◌∙◌}
use Rattle.gml_core.specs.Trees.{Entries, listed}
use Rattle.gml_core.specs.Views.{datum}
use Rattle.gml_core.proofs.SoundLemmas.{sound_inside}
use Rattle.gml_core.proofs.tree.Tree.pair.Goals as goal

pub returns-clause-inner : goal.returns-clause-inner
returns-clause-inner c = λ list sound same.
    let pair = c.nth.result.now in
    sound_inside _ c.args.i pair.key pair.at (datum pair.value) list (ap (λ (es : Entries). slice_get (listed es) c.args.i) (sym c.pairs.ensures) ∙ c.nth.ensures.entry ∙ ap Some c.nth.ensures.parts) sound same
