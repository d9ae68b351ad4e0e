use Rattle.std.proofs.Common.{refl}
use Rattle.gml_core.specs.Trees.{key}
use Rattle.gml_core.proofs.Builds.{wait_takes}
use Rattle.gml_core.proofs.parsing.Builder.wait.Goals as goal

pub returns-clause-ok : goal.returns-clause-ok
returns-clause-ok c =
    wait_takes c.args.at (key c.args.text.now c.args.at) c.args.self.now _ c.args.text.now (record { key = c.in_ok-key.key; at = c.args.at }) refl c.requires refl c.in_ok-key.ensures refl refl refl
