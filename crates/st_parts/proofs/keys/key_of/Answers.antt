use Rattle.std.proofs.Common.{Option, subst, sym}
use Rattle.gml_core.specs.Views.{entry_view}
use Rattle.st_parts.specs.Keys.{IsKnown}
use Rattle.st_parts.specs.declared.keys.Key.{Key}
use Rattle.st_parts.proofs.KeyLemmas.{is_known}
use Rattle.st_parts.proofs.keys.key_of.Goals as goal

pub returns : goal.returns
returns c = subst (λ (o : Option Key). IsKnown o (entry_view c.args.pair.now)) (sym c.spelled_key.ensures) (is_known (entry_view c.args.pair.now))
