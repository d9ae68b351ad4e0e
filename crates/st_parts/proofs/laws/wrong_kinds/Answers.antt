use Rattle.st_parts.proofs.WrongKinds.{text_least}
use Rattle.st_parts.proofs.laws.wrong_kinds.Goals as goal

pub returns : goal.returns
returns c = text_least
