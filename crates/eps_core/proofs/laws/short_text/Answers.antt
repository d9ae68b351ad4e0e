use Rattle.eps_core.proofs.Sizes.{short_text}
use Rattle.eps_core.proofs.laws.short_text.Goals as goal

pub returns : goal.returns
returns c = short_text
