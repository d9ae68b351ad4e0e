use Rattle.std.proofs.Common.{◌≡◌, ◌<◌, sym, subst}
use Rattle.st_map.specs.Embedded.{darts, next, phi}
use Rattle.st_map.specs.Orbits.{Permutes, SameOrbit}
use Rattle.st_map.proofs.Public.{faces_law, orbit-sym}
use Rattle.st_session.proofs.corners.is_corner_of.Goals as goal

pub returns : goal.returns
returns c =
    let p : Permutes (darts c.args.map.now.graph) (phi c.args.map.now.graph) = (faces_law c.args.map.now.graph c.edges.ensures.rotation).permutes in
    let e : c.next_cw-corner.result.0 ≡ next c.args.map.now.graph c.args.d.0 = c.next_cw-corner.ensures.value in
    let there : next c.args.map.now.graph c.args.d.0 < darts c.args.map.now.graph = subst (λ z. z < darts c.args.map.now.graph) e c.next_cw-corner.ensures.within in (
      λ t. orbit-sym (darts c.args.map.now.graph) (phi c.args.map.now.graph) p (next c.args.map.now.graph c.args.d.0) c.args.c.0 there (subst (λ z. SameOrbit (phi c.args.map.now.graph) z c.args.c.0) e (c.are_one_face.ensures.0 t)),
      λ s. c.are_one_face.ensures.1 (subst (λ z. SameOrbit (phi c.args.map.now.graph) z c.args.c.0) (sym e) (orbit-sym (darts c.args.map.now.graph) (phi c.args.map.now.graph) p c.args.c.0 (next c.args.map.now.graph c.args.d.0) c.requires.c_there s)),
    )
