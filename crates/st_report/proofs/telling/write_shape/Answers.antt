use Rattle.std.proofs.Common.{rules, w64, FitsSigned}
use Rattle.std.proofs.lemmas.Int.{to_z-of_z}
use Rattle.st_report.proofs.telling.write_shape.Goals as goal

pub returns-in-UnknownEnd : goal.returns-in-UnknownEnd
returns-in-UnknownEnd g c =
    let fit : FitsSigned w64 c.in-UnknownEnd.id = search rules in
    rw c.in-UnknownEnd.is (rw (to_z-of_z w64 c.in-UnknownEnd.id fit) at c.write_numbers.ensures)

pub returns-in-TooManyEdges : goal.returns-in-TooManyEdges
returns-in-TooManyEdges g c = rw c.in-TooManyEdges.is c.write_limit-in-TooManyEdges.ensures
