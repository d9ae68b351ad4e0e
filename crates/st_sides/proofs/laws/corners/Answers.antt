use Rattle.st_sides.proofs.LawLemmas.{corners_law}
use Rattle.st_sides.proofs.laws.corners.Goals as goal

pub returns : goal.returns
returns c = corners_law
