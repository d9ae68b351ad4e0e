use Rattle.std.proofs.Common.{◌+◌, take, rules}
use Rattle.gml_core.specs.declared.token.TokenKind.TheVariants.{CloseList}
use Rattle.gml_core.specs.declared.pieces.State.TheVariants.{Between}
use Rattle.gml_core.specs.Readers.{BuiltUp}
use Rattle.gml_core.proofs.Pairs.{close_at, past_goes}
use Rattle.gml_core.proofs.TreeRead.{tree_more}
use Rattle.gml_core.proofs.parsing.Builder.one_quickly.Goals as goal

pub returns-in-Ok-clause-reads : goal.returns-in-Ok-clause-reads
returns-in-Ok-clause-reads c = λ b r.
    past_goes (BuiltUp c.close.new.self) b c.args.rest.now c.args.at 1 c.past_one.result c.past_one.ensures.past
    (tree_more c.args.self.now c.close.new.self b c.args.rest.now (take 1 c.args.rest.now) Between c.args.at 1 (record { kind = CloseList; from = c.args.at; to = c.args.at + 1 }) r (close_at c.args.rest.now (search rules) (search rules) c.args.at) c.in-Ok.ensures.ok)
