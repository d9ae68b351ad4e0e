use Rattle.eps_core.proofs.Short.{lines_short}
use Rattle.eps_core.proofs.laws.short_lines.Goals as goal

pub returns : goal.returns
returns c = lines_short
