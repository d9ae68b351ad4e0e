use Rattle.std.proofs.Common.{arith}
use Rattle.gml_core.proofs.Begins.{gap_goes_on}
use Rattle.gml_core.proofs.pieces.gap.Goals as goal

pub returns : goal.returns
returns c = λ s none comes.
    gap_goes_on s c.args.comment c.skip-skipped.result.comment c.args.at c.skip-skipped.result.count c.args.rest.now c.gap_state.result c.gap_state.ensures none comes c.skip-skipped.ensures.goes (omega arith) c.skip-skipped.ensures.within
