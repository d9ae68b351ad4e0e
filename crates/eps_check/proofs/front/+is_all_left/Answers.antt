use Rattle.eps_check.proofs.FrontLemmas.{last_left}
use Rattle.eps_check.proofs.front.+is_all_left.Goals as goal

pub returns-in-Last : goal.returns-in-Last
returns-in-Last t c = rw c.in-Last.is (λ h. last_left c.in-Last.s c.args.p.now c.args.lo c.args.hi (c.is_left.ensures h))
