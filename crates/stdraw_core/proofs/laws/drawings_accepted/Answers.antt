use Rattle.stdraw_core.proofs.AcceptedLemmas.{drawings_accepted}
use Rattle.stdraw_core.proofs.laws.drawings_accepted.Goals as goal

pub returns : goal.returns
returns c = drawings_accepted c.short_text.ensures c.limits_hold.ensures
