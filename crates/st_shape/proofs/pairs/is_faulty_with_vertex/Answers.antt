use Rattle.std.proofs.Common.{w64, rules}
use mir.Val.{SFits}
use Rattle.std.proofs.lemmas.Int.{to_z-of_z}
use Rattle.st_shape.proofs.pairs.is_faulty_with_vertex.Goals as goal

pub returns-in-Bar : goal.returns-in-Bar
returns-in-Bar c =
    let name : SFits w64 c.in-Bar.name = search rules in
    let y : SFits w64 c.in-Bar.y = search rules in
    let from : SFits w64 c.in-Bar.from = search rules in
    let to : SFits w64 c.in-Bar.to = search rules in
    let h = c.are_faulty_vertices-in-Bar.ensures in
    rw c.in-Bar.is (simp to_z-of_z at h)
