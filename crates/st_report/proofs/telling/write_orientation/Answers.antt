use Rattle.std.proofs.Common.{w64, FitsSigned, rules}
use Rattle.std.proofs.lemmas.Int.{to_z-of_z}
use Rattle.st_report.proofs.telling.write_orientation.Goals as goal

pub returns-in-Loop : goal.returns-in-Loop
returns-in-Loop g c =
    let fit : FitsSigned w64 c.in-Loop.edge = search rules in
    rw c.in-Loop.is (rw (to_z-of_z w64 c.in-Loop.edge fit) at c.write_number.ensures)

pub returns-in-Cut : goal.returns-in-Cut
returns-in-Cut g c =
    let fit : FitsSigned w64 c.in-Cut.cut = search rules in
    let fit' : FitsSigned w64 c.in-Cut.apart = search rules in
    rw c.in-Cut.is (rw (to_z-of_z w64 c.in-Cut.cut fit, to_z-of_z w64 c.in-Cut.apart fit') at c.write_numbers.ensures)
