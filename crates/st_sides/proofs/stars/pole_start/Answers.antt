use Rattle.std.proofs.Common.{◌≡◌, ℕ, ◌<◌, refl, sym, subst, ◌∙◌, arith}
use Rattle.st_map.specs.Embedded.{Embedded, at, darts}
use Rattle.st_test.specs.FaceNumbers.{orbit_number}
use Rattle.st_sides.proofs.StartLemmas.{pole_begins, pole_met}
use Rattle.st_sides.proofs.stars.pole_start.Goals as goal

pub returns-then-is_on : goal.returns-then-is_on
returns-then-is_on c =
    let g : Embedded = c.args.graph.now.map.graph in
    let on : (orbit_number g c.loop-d.d ≡ c.outer-outer.result.0) × (at g c.loop-d.d ≡ c.args.v.0) = c.if-is_on.ensures.0 refl in
    pole_begins g c.args.graph.now.source c.args.graph.now.sink c.args.graph.now.outer c.map-map.ensures.planar c.args.v.0 c.loop-d.d c.requires
    (subst (λ z. c.loop-d.d < darts z.graph) c.map-map.ensures.value (omega (arith, c.edges-d-end.ensures.value, c.loop-d-test.true)))
    (on.0 ∙ c.outer-outer.ensures) on.1

pub returns : goal.returns
returns c =
    let g : Embedded = c.args.graph.now.map.graph in
    let r : (d : ℕ) × (d < darts g) × (orbit_number g d ≡ orbit_number g c.args.graph.now.outer) × (at g d ≡ c.args.v.0) =
    pole_met g c.args.graph.now.source c.args.graph.now.sink c.args.graph.now.outer c.map-map.ensures.planar c.args.v.0 c.requires in
    let l : r.0 < darts c.map-map.result.now.graph = subst (λ z. r.0 < darts z.graph) (sym c.map-map.ensures.value) r.1 in
    absurd (c.loop-d.invariant r.0 (omega (arith, l, c.edges-d-end.ensures.value, c.loop-d-test.false)) (r.2 ∙ sym c.outer-outer.ensures, r.3))
