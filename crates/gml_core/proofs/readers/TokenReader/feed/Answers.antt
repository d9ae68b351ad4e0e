use Rattle.std.proofs.Common.{sym, arith, add-zero}
use Rattle.gml_core.specs.Readers.{LeadUp}
use Rattle.gml_core.proofs.Resuming.{piece_more}
use Rattle.gml_core.proofs.readers.TokenReader.feed.Goals as goal

pub loop-at-init : goal.loop-at-init
loop-at-init c = (omega arith, sym (add-zero c.args.self.fed), c.requires.1.placed, λ b stands. piece_more (LeadUp c.args.self.tokens.items) b c.args.piece.now c.args.self.state c.args.self.fed stands)
