use Rattle.st_sides.proofs.MeaningLemmas.{meaning_law}
use Rattle.st_sides.proofs.laws.meaning.Goals as goal

pub returns : goal.returns
returns c = meaning_law
