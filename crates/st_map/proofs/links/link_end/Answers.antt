use Rattle.std.proofs.Common.{◌*◌, ◌<◌, length, subst, sym}
use Rattle.st_map.proofs.LinkLoops.{twin_below}
use Rattle.st_map.proofs.links.link_end.Goals as goal

pub key_at-twin-requires : goal.key_at-twin-requires
key_at-twin-requires c = subst (λ z. z < 2 * length c.args.keys.now) (sym c.twin.ensures.value) (twin_below c.args.d (length c.args.keys.now) c.requires.end)
