use Rattle.std.proofs.Common.{rules, w64, FitsSigned, refl}
use Rattle.std.proofs.lemmas.Int.{to_z-of_z}
use Rattle.stdraw_core.proofs.query.unknown.Goals as goal

pub returns : goal.returns
returns c = let fit : FitsSigned w64 c.args.name = search rules in rw (to_z-of_z w64 c.args.name fit) refl
