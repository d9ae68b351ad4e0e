use Rattle.st_input.proofs.LawLemmas.{fits_together}
use Rattle.st_input.proofs.laws.tables_fit_together.Goals as goal

pub returns : goal.returns
returns c = fits_together
