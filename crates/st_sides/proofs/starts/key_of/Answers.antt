use Rattle.std.proofs.Common.{◌≡◌, ◌<◌, sym, subst, ◌∙◌}
use Rattle.st_map.specs.Embedded.{Embedded, faces}
use Rattle.st_test.specs.FaceNumbers.{orbit_number}
use Rattle.st_sides.specs.Filled.{keys}
use Rattle.st_sides.proofs.StartLemmas.{number_below}
use Rattle.st_sides.proofs.starts.key_of.Goals as goal

pub returns-then-face-clause-within : goal.returns-then-face-clause-within
returns-then-face-clause-within c =
    let g : Embedded = c.args.graph.now.map.graph in
    let is : c.orbit.result.0 ≡ orbit_number g c.args.d.0 = c.orbit.ensures ∙ c.faces.ensures.each c.args.d.0 c.requires in
    let l : orbit_number g c.args.d.0 < faces g = number_below g c.args.graph.now.source c.args.graph.now.sink c.args.graph.now.outer c.map-map.ensures.planar c.args.d.0 c.requires in
    subst (λ b. c.orbit.result.0 < keys g b) (sym c.if-face.true) (subst (λ z. z < faces g) (sym is) l)
