use Rattle.gml_core.specs.Views.{datum, view}
use Rattle.gml_core.proofs.SoundLemmas.{sound_after}
use Rattle.gml_core.proofs.tree.Tree.put.Goals as goal

pub returns-clause-sound : goal.returns-clause-sound
returns-clause-sound c = sound_after (view c.args.self.now) (view c.place.new.self) c.args.key.now 0 (datum c.args.value) c.place.result c.place.ensures.ok c.place.ensures.err c.requires.sound c.requires.room c.requires.key c.requires.value
