use Rattle.std.proofs.Common.{List, ℕ, sym, ap, subst, ◌∙◌}
use Rattle.gml_core.specs.Trees.{str, atom}
use Rattle.gml_core.specs.Sound.{IsSoundDatum}
use Rattle.gml_core.proofs.SoundLemmas.{str_sound}
use Rattle.gml_core.proofs.tree.Tree.push_str.Goals as goal

pub put-requires-clause-value : goal.put-requires-clause-value
put-requires-clause-value c = subst IsSoundDatum (sym (c.str_value.ensures ∙ ap (λ (bs : List ℕ). atom (str bs)) c.in_ok-text.ensures)) (str_sound c.args.text.now c.requires.no_quote)
