use Rattle.std.proofs.Common.{◌≡◌, ◌<◌, ◌≤◌, [], length, arith}
use Rattle.stdraw_core.specs.Session.{so_far}
use Rattle.stdraw_core.proofs.SessionLemmas.{rest_end, rest_step, rest_stop, rest_whole}
use Rattle.stdraw_core.proofs.session.lines_of.Goals as goal

pub returns-in-Err : goal.returns-in-Err
returns-in-Err c =
    let there : c.loop-i.i < length c.args.items.now = omega arith in
    rest_stop c.args.items.now c.loop-i.i _ there (so_far c.args.session.now []) (so_far c.loop-i.session c.loop-i.text) c.loop-i.invariant c.in-Err.stop c.in-Err.ensures.refused

pub loop-i-preserved : goal.loop-i-preserved
loop-i-preserved c =
    let there : c.loop-i.i < length c.args.items.now = omega arith in
    rest_step c.args.items.now c.loop-i.i _ there (so_far c.args.session.now []) (so_far c.loop-i.session c.loop-i.text) c.loop-i.invariant (so_far c.carry.new.session c.carry.new.text) c.in-Ok.ensures.carried
