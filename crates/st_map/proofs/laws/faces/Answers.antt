use Rattle.st_map.proofs.FaceLemmas.{faces_law}
use Rattle.st_map.proofs.laws.faces.Goals as goal

pub returns : goal.returns
returns c = faces_law
