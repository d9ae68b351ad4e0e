use Rattle.std.proofs.Common.{◌<◌, ◌*◌, sym, subst}
use Rattle.st_bipolar.proofs.turning.turn.Goals as goal

pub new_end-outer-requires : goal.new_end-outer-requires
new_end-outer-requires c = subst (λ z. c.args.end.0 < 2 * z) (sym c.in_ok-turned.ensures.size) c.requires.there
