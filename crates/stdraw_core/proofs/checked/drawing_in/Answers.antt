use Rattle.std.proofs.Common.{refl}
use Rattle.stdraw_core.proofs.checked.drawing_in.Goals as goal

pub returns-in-Err-BadLine : goal.returns-in-Err-BadLine
returns-in-Err-BadLine c = record { fault = c.in-Err-BadLine.line; is = refl; holds = c.in-Err-BadLine.ensures.first_bad c.in-Err-BadLine.line c.in-Err-BadLine.field-0-is }
