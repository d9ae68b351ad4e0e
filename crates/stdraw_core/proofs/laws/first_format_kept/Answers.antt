use Rattle.stdraw_core.proofs.FirstFormatLemmas.{first_format}
use Rattle.stdraw_core.proofs.laws.first_format_kept.Goals as goal

pub returns : goal.returns
returns c = first_format c.lengths_default.ensures
