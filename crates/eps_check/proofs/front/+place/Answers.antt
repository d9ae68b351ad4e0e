use Rattle.eps_check.proofs.FrontLemmas.{placed_whole}
use Rattle.eps_check.proofs.front.+place.Goals as goal

pub returns-then-is_all_left : goal.returns-then-is_all_left
returns-then-is_all_left t c = λ h. placed_whole c.args.front.now c.args.lo c.args.hi c.args.p.now c.requires (c.is_all_left.ensures c.if-is_all_left.true)
