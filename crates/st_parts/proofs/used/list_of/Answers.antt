use Rattle.std.proofs.Common.{subst, sym}
use Rattle.st_parts.specs.Used.{HasSoundList}
use Rattle.st_parts.proofs.used.list_of.Goals as goal

pub list_value-requires : goal.list_value-requires
list_value-requires c = subst HasSoundList (sym c.value.ensures) c.requires
