use Rattle.std.proofs.Common.{[], sym, arith, add-zero}
use Rattle.gml_core.proofs.TreeRead.{tree_placed, tree_piece}
use Rattle.gml_core.proofs.readers.TreeReader.feed.Goals as goal

pub loop-at-init : goal.loop-at-init
loop-at-init c = (omega arith, sym (add-zero c.args.self.fed), tree_placed c.args.self.fault c.args.self c.requires.0 [] c.requires.1.reads, λ b stands. record { reads = tree_piece c.args.self.fault c.args.self b c.args.piece.now stands.reads })
