use Rattle.std.proofs.Common.{w64, FitsSigned, rules}
use Rattle.std.proofs.lemmas.Int.{to_z-of_z}
use Rattle.st_report.proofs.telling.write_path.Goals as goal

pub returns-in-SharedEdge : goal.returns-in-SharedEdge
returns-in-SharedEdge g c =
    let fit : FitsSigned w64 c.in-SharedEdge.edge = search rules in
    rw c.in-SharedEdge.is (rw (to_z-of_z w64 c.in-SharedEdge.edge fit) at c.write_numbers-in-SharedEdge.ensures)
