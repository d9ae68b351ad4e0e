use Rattle.std.proofs.Common.{ℕ, ◌≡◌, ◌<◌, false, refl, sym, ◌∙◌, arith}
use Rattle.std.proofs.lemmas.Bool.{both_ways}
use Rattle.st_map.specs.Embedded.{at, darts}
use Rattle.st_map.specs.Laws.{FacesAre}
use Rattle.st_map.proofs.Public.{faces_law}
use Rattle.st_test.specs.FaceNumbers.{orbit_number}
use Rattle.st_test.proofs.VerdictLemmas.{touches_from, touched_by}
use Rattle.st_test.proofs.verdict.touches.Goals as goal

pub returns-then-is_on : goal.returns-then-is_on
returns-then-is_on c =
    let are : FacesAre c.args.map.now.graph = faces_law c.args.map.now.graph c.edges-d-end.ensures.rotation in
    let there : c.loop-d.d < darts c.args.map.now.graph = omega (arith, c.edges-d-end.ensures.value, c.loop-d-test.true) in
    let outer : c.orbit-face.result.0 ≡ orbit_number c.args.map.now.graph c.args.outer.0 =
    c.orbit-face.ensures ∙ c.requires.faces.each c.args.outer.0 c.requires.there in
    let on : (orbit_number c.args.map.now.graph c.loop-d.d ≡ c.orbit-face.result.0) × (at c.args.map.now.graph c.loop-d.d ≡ c.args.v.0) = c.if-is_on.ensures.0 refl in (
      λ _. touches_from c.args.map.now.graph are c.args.outer.0 c.loop-d.d c.args.v.0 c.requires.there there (on.0 ∙ outer) on.1,
      λ _. refl,
    )

pub returns : goal.returns
returns c =
    let are : FacesAre c.args.map.now.graph = faces_law c.args.map.now.graph c.edges-d-end.ensures.rotation in
    let outer : c.orbit-face.result.0 ≡ orbit_number c.args.map.now.graph c.args.outer.0 =
    c.orbit-face.ensures ∙ c.requires.faces.each c.args.outer.0 c.requires.there in (
      λ t. absurd (both_ways false refl t),
      λ t.
          let r : (d : ℕ) × (d < darts c.args.map.now.graph) × (orbit_number c.args.map.now.graph d ≡ orbit_number c.args.map.now.graph c.args.outer.0) × (at c.args.map.now.graph d ≡ c.args.v.0) =
          touched_by c.args.map.now.graph are c.args.outer.0 c.args.v.0 c.requires.there t in
          absurd (c.loop-d.invariant r.0 (omega (arith, r.1, c.edges-d-end.ensures.value, c.loop-d-test.false)) (r.2 ∙ sym outer, r.3)),
    )
