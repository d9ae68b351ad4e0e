use Rattle.std.proofs.Common.{subst, sym}
use Rattle.eps_core.specs.Meaning.{IsFirstBad}
use Rattle.st_callers.proofs.read_back.looked_at.Goals as goal

pub returns-in-Err-BadLine : goal.returns-in-Err-BadLine
returns-in-Err-BadLine c = subst (λ z. IsFirstBad c.args.bytes.now z) (sym c.in-Err-BadLine.line-is) (c.in-Err-BadLine.ensures.first_bad c.in-Err-BadLine.line c.in-Err-BadLine.field-0-is)
