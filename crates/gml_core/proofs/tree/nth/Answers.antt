use Rattle.std.proofs.Common.{length, refl, arith}
use Rattle.std.proofs.lemmas.Option.{slice_get_read}
use Rattle.gml_core.proofs.Pushes.{get_listed, length_listed}
use Rattle.gml_core.proofs.tree.nth.Goals as goal

pub returns-clause-entry : goal.returns-clause-entry
returns-clause-entry c = get_listed c.args.pairs.now c.args.i c.index-pairs-i.result (slice_get_read c.args.pairs.now (length c.args.pairs.now) c.args.i c.index-pairs-i.result refl (omega (arith, length_listed c.args.pairs.now, c.requires)) c.index-pairs-i.is)
