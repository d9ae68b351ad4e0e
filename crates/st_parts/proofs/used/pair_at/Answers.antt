use Rattle.std.proofs.Common.{◌≡◌, ◌∙◌, ap, sym}
use Rattle.gml_core.specs.Trees.{Entry, Entries, list}
use Rattle.gml_core.specs.Views.{entry_view}
use Rattle.st_parts.specs.Used.{datum_of}
use Rattle.st_parts.proofs.used.pair_at.Goals as goal

pub returns-clause-sound : goal.returns-clause-sound
returns-clause-sound c = record {
  inside = λ (es : Entries) (is : datum_of (entry_view c.pair.result.now) ≡ list es). c.pair.ensures.inner es c.requires.sound (sym (ap (λ (e : Entry). datum_of e) c.pair.ensures.parts) ∙ is);
}
