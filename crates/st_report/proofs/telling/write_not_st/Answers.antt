use Rattle.std.proofs.Common.{w64, FitsSigned, rules}
use Rattle.std.proofs.lemmas.Int.{to_z-of_z}
use Rattle.st_report.proofs.telling.write_not_st.Goals as goal

pub returns-in-Sinks : goal.returns-in-Sinks
returns-in-Sinks g c =
    let fit : FitsSigned w64 c.in-Sinks.first = search rules in
    let fit' : FitsSigned w64 c.in-Sinks.second = search rules in
    rw c.in-Sinks.is (rw (to_z-of_z w64 c.in-Sinks.first fit, to_z-of_z w64 c.in-Sinks.second fit') at c.write_several-in-Sinks.ensures)
