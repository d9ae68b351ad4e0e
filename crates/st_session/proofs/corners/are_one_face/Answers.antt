use Rattle.std.proofs.Common.{◌≡◌, ◌+◌, false, refl, sym, ◌∙◌, arith}
use Rattle.std.proofs.lemmas.Bool.{both_ways}
use Rattle.st_map.specs.Embedded.{darts, phi}
use Rattle.st_map.specs.Orbits.{Permutes}
use Rattle.st_map.proofs.Public.{faces_law}
use Rattle.st_session.specs.Corners.{IsOnWay}
use Rattle.st_session.proofs.CornerLemmas.{none_at_all, none_round, way_on}
use Rattle.st_session.proofs.corners.are_one_face.Goals as goal

pub returns-then-end-c : goal.returns-then-end-c
returns-then-end-c c =
    let p : Permutes (darts c.args.map.now.graph) (phi c.args.map.now.graph) = (faces_law c.args.map.now.graph c.edges-k-end.ensures.rotation).permutes in
    let on : IsOnWay (darts c.args.map.now.graph) (phi c.args.map.now.graph) c.args.c.0 (λ x. x ≡ c.args.d.0) (c.loop-k.k + 1) c.turn-end.result.0 =
    way_on (darts c.args.map.now.graph) (phi c.args.map.now.graph) c.args.c.0 (λ x. x ≡ c.args.d.0) c.loop-k.k c.loop-k.end.0 c.turn-end.result.0 c.loop-k.invariant c.if-end-d.false c.turn-end.ensures.value c.turn-end.ensures.within in (
      λ t. absurd (both_ways false refl t),
      λ s. absurd (none_round (darts c.args.map.now.graph) (phi c.args.map.now.graph) p c.args.c.0 (λ x. x ≡ c.args.d.0) (c.loop-k.k + 1) (omega arith) (sym on.place ∙ c.if-end-c.true) on.passed c.args.d.0 s refl),
    )

pub returns : goal.returns
returns c =
    let p : Permutes (darts c.args.map.now.graph) (phi c.args.map.now.graph) = (faces_law c.args.map.now.graph c.edges-k-end.ensures.rotation).permutes in (
      λ t. absurd (both_ways false refl t),
      λ s. absurd (none_at_all (darts c.args.map.now.graph) (phi c.args.map.now.graph) p c.args.c.0 (λ x. x ≡ c.args.d.0) c.requires.c_there (λ j l. c.loop-k.invariant.passed j (omega (arith, l, c.edges-k-end.ensures.value, c.loop-k-test.false))) c.args.d.0 s refl),
    )
