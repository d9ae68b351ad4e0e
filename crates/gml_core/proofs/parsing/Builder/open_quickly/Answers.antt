use Rattle.std.proofs.Common.{◌+◌, Some, take}
use Rattle.gml_core.specs.declared.token.TokenKind.TheVariants.{OpenList}
use Rattle.gml_core.specs.declared.pieces.State.TheVariants.{Between}
use Rattle.gml_core.specs.Readers.{BuiltUp}
use Rattle.gml_core.proofs.Pairs.{open_at, past_goes}
use Rattle.gml_core.proofs.TreeRead.{tree_more}
use Rattle.gml_core.proofs.parsing.Builder.open_quickly.Goals as goal

pub returns-in-Ok-clause-reads : goal.returns-in-Ok-clause-reads
returns-in-Ok-clause-reads c = λ b r.
    past_goes (BuiltUp c.begin.new.self) b c.args.rest.now c.args.at 1 c.past_one.result c.past_one.ensures.past
    (tree_more (record c.args.self.now { waits = Some c.args.waiting }) c.begin.new.self b c.args.rest.now (take 1 c.args.rest.now) Between c.args.at 1 (record { kind = OpenList; from = c.args.at; to = c.args.at + 1 }) r
    (open_at c.args.rest.now c.requires.some c.requires.bracket c.args.at) c.in-Ok.ensures.ok)
