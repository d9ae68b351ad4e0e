use Rattle.st_test.proofs.VerdictLemmas.{no_loop}
use Rattle.st_test.proofs.laws.no_loop.Goals as goal

pub returns : goal.returns
returns c = no_loop
