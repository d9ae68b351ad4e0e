use Rattle.std.proofs.Common.{◌+◌, ◌<◌, false, refl, sym, ◌∙◌, subst, arith}
use Rattle.std.proofs.lemmas.Bool.{both_ways}
use Rattle.st_map.specs.Embedded.{IsRotation, darts, next}
use Rattle.st_map.specs.Orbits.{Permutes}
use Rattle.st_map.proofs.Public.{at_below, next-permutes}
use Rattle.st_session.specs.Corners.{IsLike, IsOnWay}
use Rattle.st_session.proofs.CornerLemmas.{found_other, no_other, none_at_all, none_round, way_on}
use Rattle.st_session.proofs.corners.has_other.Goals as goal

pub returns-then-is_like : goal.returns-then-is_like
returns-then-is_like c = (
  λ _. found_other c.args.map.now.graph c.edges-k-end.ensures.rotation c.args.d.0 c.loop-k.k c.loop-k.end.0 c.requires c.loop-k.invariant (c.if-is_like.ensures.0 refl),
  λ _. refl,
)

pub returns-then-end-start : goal.returns-then-end-start
returns-then-end-start c =
    let R : IsRotation c.args.map.now.graph = c.edges-k-end.ensures.rotation in
    let p : Permutes (darts c.args.map.now.graph) (next c.args.map.now.graph) = next-permutes c.args.map.now.graph R.orders (at_below c.args.map.now.graph R.ends) in
    let on : IsOnWay (darts c.args.map.now.graph) (next c.args.map.now.graph) (next c.args.map.now.graph c.args.d.0) (IsLike c.args.d.0) (c.loop-k.k + 1) c.next_cw-end.result.0 =
    way_on (darts c.args.map.now.graph) (next c.args.map.now.graph) (next c.args.map.now.graph c.args.d.0) (IsLike c.args.d.0) c.loop-k.k c.loop-k.end.0 c.next_cw-end.result.0 c.loop-k.invariant (λ h. both_ways false refl (c.if-is_like.ensures.1 h)) c.next_cw-end.ensures.value c.next_cw-end.ensures.within in (
      λ t. absurd (both_ways false refl t),
      λ h. absurd (no_other c.args.map.now.graph R c.args.d.0 c.requires (none_round (darts c.args.map.now.graph) (next c.args.map.now.graph) p (next c.args.map.now.graph c.args.d.0) (IsLike c.args.d.0) (c.loop-k.k + 1) (omega arith) (sym on.place ∙ c.if-end-start.true ∙ c.next_cw-start.ensures.value) on.passed) h),
    )

pub returns : goal.returns
returns c =
    let R : IsRotation c.args.map.now.graph = c.edges-k-end.ensures.rotation in
    let p : Permutes (darts c.args.map.now.graph) (next c.args.map.now.graph) = next-permutes c.args.map.now.graph R.orders (at_below c.args.map.now.graph R.ends) in
    let there : next c.args.map.now.graph c.args.d.0 < darts c.args.map.now.graph = subst (λ z. z < darts c.args.map.now.graph) c.next_cw-start.ensures.value c.next_cw-start.ensures.within in (
      λ t. absurd (both_ways false refl t),
      λ h. absurd (no_other c.args.map.now.graph R c.args.d.0 c.requires (none_at_all (darts c.args.map.now.graph) (next c.args.map.now.graph) p (next c.args.map.now.graph c.args.d.0) (IsLike c.args.d.0) there (λ j l. c.loop-k.invariant.passed j (omega (arith, l, c.edges-k-end.ensures.value, c.loop-k-test.false)))) h),
    )
